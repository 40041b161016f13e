use Rattle.contacts.proofs.PairPieceLaws.{pairs_joined}
use Rattle.contacts.proofs.pair_pieces.PairPieceRangePiece.know_joined.Goals as goal

pub returns : goal.returns
returns c = pairs_joined
