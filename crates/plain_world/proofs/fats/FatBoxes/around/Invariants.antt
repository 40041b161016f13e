use Rattle.std.proofs.Common.{◌≡◌, take}
use Rattle.plain_world.specs.Fats.{fat_boxes}
use Rattle.plain_world.proofs.fats.FatBoxes.around.Given as goal

abbrev pub invariant-loop-def : goal.invariant-loop-def
invariant-loop-def l = l.boxes.items ≡ fat_boxes (take l.def-index l.defs) l.pose
