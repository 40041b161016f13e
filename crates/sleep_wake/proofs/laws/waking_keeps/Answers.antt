use Rattle.sleep_wake.proofs.KeptLemmas.{waking_keeps}
use Rattle.sleep_wake.proofs.laws.waking_keeps.Goals as goal

pub returns : goal.returns
returns g c = waking_keeps g.C.ConstraintId.number
