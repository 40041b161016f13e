use Rattle.sleep_wake.proofs.ChangeLemmas.{changes_fold}
use Rattle.sleep_wake.proofs.laws.changes_fold.Goals as goal

pub returns : goal.returns
returns g c = changes_fold g.C.ConstraintId.number
