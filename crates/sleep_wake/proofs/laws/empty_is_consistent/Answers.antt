use Rattle.sleep_wake.proofs.PhaseLemmas.{empty_consistent}
use Rattle.sleep_wake.proofs.laws.empty_is_consistent.Goals as goal

pub returns : goal.returns
returns g c = empty_consistent g.C.ConstraintId.number
