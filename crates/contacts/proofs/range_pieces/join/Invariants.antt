use Rattle.std.proofs.Common.{◌≡◌, take}
use Rattle.contacts.proofs.range_pieces.join.Given as goal

abbrev pub invariant-loop-answer : goal.invariant-loop-answer
invariant-loop-answer g l = l.all ≡ g.P.RangePiece.joined (take l.answer-index l.answers)
