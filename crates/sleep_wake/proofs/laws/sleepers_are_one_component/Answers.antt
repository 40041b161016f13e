use Rattle.sleep_wake.proofs.KeptLemmas.{sleepers_are}
use Rattle.sleep_wake.proofs.laws.sleepers_are_one_component.Goals as goal

pub returns : goal.returns
returns g c = sleepers_are g.C.ConstraintId.number
