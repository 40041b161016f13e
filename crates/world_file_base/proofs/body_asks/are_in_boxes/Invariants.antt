use Rattle.std.proofs.Common.{◌≡◌, drop}
use Rattle.world_file_base.specs.SavedBodies.{are_in_boxes}
use Rattle.world_file_base.proofs.body_asks.are_in_boxes.Given as goal

abbrev pub invariant-loop-place : goal.invariant-loop-place
invariant-loop-place l = are_in_boxes l.pose (drop l.place l.defs) (drop l.place l.fats) ≡ are_in_boxes l.pose l.defs l.fats
