use Rattle.solver_sets.proofs.BodyLaws.{enabling}
use Rattle.solver_sets.proofs.laws.enabling_adds_ties.Goals as goal

pub returns : goal.returns
returns c = enabling
