use Rattle.sleep_wake.proofs.KeptLemmas.{changing_keeps}
use Rattle.sleep_wake.proofs.laws.changing_keeps.Goals as goal

pub returns : goal.returns
returns g c = changing_keeps g.C.ConstraintId.number
