use Rattle.sleep_wake.proofs.LawLemmas.{waking_leaves_the_awake}
use Rattle.sleep_wake.proofs.laws.waking_leaves_the_awake.Goals as goal

pub returns : goal.returns
returns g c = waking_leaves_the_awake g.C.ConstraintId.number
