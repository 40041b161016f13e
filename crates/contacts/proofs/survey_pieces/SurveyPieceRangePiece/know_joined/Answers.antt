use Rattle.contacts.specs.Fates.{moved_by}
use Rattle.contacts.proofs.SurveyPieceLaws.{looks_joined}
use Rattle.contacts.proofs.survey_pieces.SurveyPieceRangePiece.know_joined.Goals as goal

pub returns : goal.returns
returns g c = λ lent. looks_joined (moved_by (g.S.ShapesById.marks lent.shapes)) (g.F.ForbiddenPairs.pairs lent.forbidden) (g.S.ShapesById.proxies lent.shapes) lent.contacts lent.places.items
