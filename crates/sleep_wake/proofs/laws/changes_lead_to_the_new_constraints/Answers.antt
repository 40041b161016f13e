use Rattle.sleep_wake.proofs.BetweenLemmas.{changes_lead_to}
use Rattle.sleep_wake.proofs.laws.changes_lead_to_the_new_constraints.Goals as goal

pub returns : goal.returns
returns g c = changes_lead_to g.C.ConstraintId.number
