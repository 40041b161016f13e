use Rattle.sleep_wake.proofs.PhaseLemmas.{going_keeps}
use Rattle.sleep_wake.proofs.laws.going_keeps.Goals as goal

pub returns : goal.returns
returns g c = going_keeps g.C.ConstraintId.number
