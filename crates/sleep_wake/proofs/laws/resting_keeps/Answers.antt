use Rattle.sleep_wake.proofs.KeptLemmas.{resting_keeps}
use Rattle.sleep_wake.proofs.laws.resting_keeps.Goals as goal

pub returns : goal.returns
returns g c = resting_keeps g.C.ConstraintId.number
