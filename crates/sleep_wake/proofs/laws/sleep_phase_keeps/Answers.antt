use Rattle.sleep_wake.proofs.PhaseLemmas.{sleeping_keeps}
use Rattle.sleep_wake.proofs.laws.sleep_phase_keeps.Goals as goal

pub returns : goal.returns
returns g c = sleeping_keeps g.C.ConstraintId.number
