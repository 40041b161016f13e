use Rattle.sleep_wake.proofs.LawLemmas.{the_named_are_awake}
use Rattle.sleep_wake.proofs.laws.the_named_are_awake.Goals as goal

pub returns : goal.returns
returns g c = the_named_are_awake g.C.ConstraintId.number
