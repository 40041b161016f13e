use Rattle.sleep_wake.proofs.LawLemmas.{waking_named_keeps}
use Rattle.sleep_wake.proofs.laws.waking_named_keeps.Goals as goal

pub returns : goal.returns
returns g c = waking_named_keeps g.C.ConstraintId.number
