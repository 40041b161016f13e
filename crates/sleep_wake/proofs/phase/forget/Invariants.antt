use Rattle.std.proofs.Common.{◌≡◌, ◌≤◌, drop, length}
use Rattle.std.specs.Vec.{vec_capacity}
use Rattle.sleep_wake.specs.Resting.{forgotten}
use Rattle.sleep_wake.proofs.phase.forget.Given as goal

abbrev pub invariant-loop-place : goal.invariant-loop-place
invariant-loop-place l = record {
  rest : forgotten (drop l.place l.slots) l.leasts.items ≡ forgotten l.slots l.fn.leasts.items;
  long : length l.leasts.items ≡ length l.fn.leasts.items;
  capacity : vec_capacity l.fn.leasts ≤ vec_capacity l.leasts;
}
