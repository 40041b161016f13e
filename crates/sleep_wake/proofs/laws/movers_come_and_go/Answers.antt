use Rattle.sleep_wake.proofs.LawLemmas.{movers_come_and_go}
use Rattle.sleep_wake.proofs.laws.movers_come_and_go.Goals as goal

pub returns : goal.returns
returns g c = movers_come_and_go g.C.ConstraintId.number
