use Rattle.sleep_wake.proofs.PhaseLemmas.{making_keeps}
use Rattle.sleep_wake.proofs.laws.making_keeps.Goals as goal

pub returns : goal.returns
returns g c = making_keeps g.C.ConstraintId.number
