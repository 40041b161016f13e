use Rattle.sleep_wake.proofs.LawLemmas.{movers_stay}
use Rattle.sleep_wake.proofs.laws.movers_stay.Goals as goal

pub returns : goal.returns
returns g c = movers_stay g.C.ConstraintId.number
