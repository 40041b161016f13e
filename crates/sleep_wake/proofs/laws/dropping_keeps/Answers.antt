use Rattle.sleep_wake.proofs.PhaseLemmas.{dropping_keeps}
use Rattle.sleep_wake.proofs.laws.dropping_keeps.Goals as goal

pub returns : goal.returns
returns g c = dropping_keeps g.C.ConstraintId.number
