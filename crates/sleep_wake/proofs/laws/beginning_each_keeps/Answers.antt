use Rattle.sleep_wake.proofs.LawLemmas.{beginning_each_keeps}
use Rattle.sleep_wake.proofs.laws.beginning_each_keeps.Goals as goal

pub returns : goal.returns
returns g c = beginning_each_keeps g.C.ConstraintId.number
