use Rattle.sleep_wake.proofs.LawLemmas.{sleep_keeps}
use Rattle.sleep_wake.proofs.laws.sleep_keeps.Goals as goal

pub returns : goal.returns
returns g c = sleep_keeps g.C.ConstraintId.number
