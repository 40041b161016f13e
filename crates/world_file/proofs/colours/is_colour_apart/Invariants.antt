use Rattle.std.proofs.Common.{◌≡◌, ◌≤◌, drop, length}
use Rattle.world_file.specs.Fitting.{share_no_mover, coloured}
use Rattle.world_file.specs.Taken.{AreTaken}
use Rattle.world_file.proofs.colours.is_colour_apart.Given as goal

abbrev pub invariant-loop-left : goal.invariant-loop-left
invariant-loop-left l = record {
  below : l.left ≤ length l.ties;
  apart : l.apart ≡ share_no_mover (coloured (drop l.left l.ties) l.colour);
  taken : AreTaken (coloured (drop l.left l.ties) l.colour) l.used.items;
}

abbrev pub decreases-loop-left : goal.decreases-loop-left
decreases-loop-left l = l.left
