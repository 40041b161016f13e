use Rattle.solver_sets.proofs.BodyLaws.{ties_at_are}
use Rattle.solver_sets.proofs.laws.ties_at_are_ties.Goals as goal

pub returns : goal.returns
returns c = ties_at_are
