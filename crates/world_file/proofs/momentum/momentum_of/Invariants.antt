use Rattle.std.proofs.Common.{◌≡◌, ◌≤◌, ◌*◌, ◌^◌, ◌+ℤ◌, drop, unsigned_abs}
use Rattle.plain_world.specs.Momentum.{momentum}
use Rattle.world_file.proofs.momentum.momentum_of.Given as goal

abbrev pub invariant-loop-entry : goal.invariant-loop-entry
invariant-loop-entry l = record {
  x : l.sum.x +ℤ (momentum (drop l.entry-index l.bodies)).x ≡ (momentum l.bodies).x;
  y : l.sum.y +ℤ (momentum (drop l.entry-index l.bodies)).y ≡ (momentum l.bodies).y;
  x_small : unsigned_abs l.sum.x ≤ l.entry-index * 2 ^ 63;
  y_small : unsigned_abs l.sum.y ≤ l.entry-index * 2 ^ 63;
}
