use Rattle.sleep_wake.proofs.LawLemmas.{ending_each_keeps}
use Rattle.sleep_wake.proofs.laws.ending_each_keeps.Goals as goal

pub returns : goal.returns
returns g c = ending_each_keeps g.C.ConstraintId.number
