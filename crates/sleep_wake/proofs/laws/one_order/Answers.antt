use Rattle.sleep_wake.proofs.ChangeLemmas.{one_order}
use Rattle.sleep_wake.proofs.laws.one_order.Goals as goal

pub returns : goal.returns
returns g c = one_order g.C.ConstraintId.number
