use Rattle.sleep_wake.proofs.ChangeLemmas.{ties_after}
use Rattle.sleep_wake.proofs.laws.ties_after_changes.Goals as goal

pub returns : goal.returns
returns g c = ties_after g.C.ConstraintId.number
