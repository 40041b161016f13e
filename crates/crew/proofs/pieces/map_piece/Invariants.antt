use Rattle.std.proofs.Common.{◌≡◌, map, take}
use Rattle.crew.proofs.pieces.map_piece.Given as goal

abbrev pub invariant-loop-item : goal.invariant-loop-item
invariant-loop-item g l = l.out.items ≡ map (g.W.Work.answer l.work) (take l.item-index l.items)
