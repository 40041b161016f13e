use Rattle.sleep_wake.proofs.KeptLemmas.{linked_stand}
use Rattle.sleep_wake.proofs.laws.linked_movers_stand_together.Goals as goal

pub returns : goal.returns
returns g c = linked_stand g.C.ConstraintId.number
