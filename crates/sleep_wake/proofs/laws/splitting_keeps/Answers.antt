use Rattle.sleep_wake.proofs.PhaseLemmas.{splitting_keeps}
use Rattle.sleep_wake.proofs.laws.splitting_keeps.Goals as goal

pub returns : goal.returns
returns g c = splitting_keeps g.C.ConstraintId.number
