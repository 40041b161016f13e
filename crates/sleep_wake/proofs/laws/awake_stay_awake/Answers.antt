use Rattle.sleep_wake.proofs.LawLemmas.{awake_stay_awake}
use Rattle.sleep_wake.proofs.laws.awake_stay_awake.Goals as goal

pub returns : goal.returns
returns g c = awake_stay_awake g.C.ConstraintId.number
