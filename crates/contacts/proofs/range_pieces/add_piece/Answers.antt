use Rattle.std.proofs.Common.{rules}
use Rattle.contacts.proofs.PieceRangeLaws.{one_more}
use Rattle.contacts.proofs.range_pieces.add_piece.Goals as goal

pub returns-clause-added : goal.returns-clause-added
returns-clause-added g c = λ items. one_more _ g.P.RangePiece.range items c.args.pieces.now.items c.push.new.self.items c.in_ok-piece.piece c.args.first c.args.count (search rules) c.in_ok-piece.ensures.range
