use Rattle.std.proofs.Common.{◌≡◌, ◌≤◌, ℕ, drop, nat_eq}
use Rattle.std.specs.HashMap.{get}
use Rattle.world_file.proofs.Numbered.{colour_from}
use Rattle.world_file.proofs.numbered_colours.colours_by_number.Given as goal

abbrev pub invariant-loop-left : goal.invariant-loop-left
invariant-loop-left l = record {
  few : l.left ≤ 25;
  colours : (number : ℕ) → get nat_eq l.by_number number ≡ colour_from number l.left (drop l.left l.plain.colours);
}

abbrev pub decreases-loop-left : goal.decreases-loop-left
decreases-loop-left l = l.left
