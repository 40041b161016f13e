use Rattle.sleep_wake.proofs.KeptLemmas.{ending_keeps}
use Rattle.sleep_wake.proofs.laws.ending_keeps.Goals as goal

pub returns : goal.returns
returns g c = ending_keeps g.C.ConstraintId.number
