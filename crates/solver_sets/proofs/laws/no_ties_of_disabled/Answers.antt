use Rattle.solver_sets.proofs.BodyLaws.{none_of_disabled}
use Rattle.solver_sets.proofs.laws.no_ties_of_disabled.Goals as goal

pub returns : goal.returns
returns c = none_of_disabled
