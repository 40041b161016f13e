use Rattle.solver_sets.proofs.BodyLaws.{disabling}
use Rattle.solver_sets.proofs.laws.disabling_takes_ties.Goals as goal

pub returns : goal.returns
returns c = disabling
