use Rattle.sleep_wake.proofs.KeptLemmas.{beginning_keeps}
use Rattle.sleep_wake.proofs.laws.beginning_keeps.Goals as goal

pub returns : goal.returns
returns g c = beginning_keeps g.C.ConstraintId.number
