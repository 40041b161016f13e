use Rattle.std.proofs.Common.{ap, rules}
use Rattle.contacts.specs.PieceRanges.{items_of}
use Rattle.contacts.proofs.PieceRangeLaws.{cut_ends, cut_more}
use Rattle.contacts.proofs.range_pieces.cut.Goals as goal

pub loop-init : goal.loop-init
loop-init g c = record { within = search rules; cut = λ items. ap (items_of g.P.RangePiece.range items) c.requires.empty }

pub loop-preserved : goal.loop-preserved
loop-preserved g c = record {
  within = search rules;
  cut = λ items. cut_more items _ _ c.loop.first _ (c.loop.invariant.cut items) (c.in_ok-add_piece.ensures.added items);
}

pub returns-clause-cut : goal.returns-clause-cut
returns-clause-cut g c = λ items long. cut_ends items _ c.loop.first c.args.all c.loop.invariant.within long (cut_more items _ _ c.loop.first _ (c.loop.invariant.cut items) (c.in_ok-add_piece-2.ensures.added items))
