use Rattle.sleep_wake.proofs.LawLemmas.{the_awake_act}
use Rattle.sleep_wake.proofs.laws.the_awake_act.Goals as goal

pub returns : goal.returns
returns g c = the_awake_act g.C.ConstraintId.number
