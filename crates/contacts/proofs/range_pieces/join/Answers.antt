use Rattle.std.proofs.Common.{◌∙◌, ap, take}
use Rattle.contacts.proofs.PieceRangeLaws.{next_taken}
use Rattle.contacts.proofs.range_pieces.join.Goals as goal

pub loop-answer-preserved : goal.loop-answer-preserved
loop-answer-preserved g c =
    c.in_ok-append.ensures.added (take c.loop-answer.answer-index c.args.answers.now) c.loop-answer.invariant
    ∙ ap g.P.RangePiece.joined (next_taken _ c.args.answers.now c.loop-answer.answer-index _ c.answer-item.result c.loop-answer-test.true c.answer-item.is)
