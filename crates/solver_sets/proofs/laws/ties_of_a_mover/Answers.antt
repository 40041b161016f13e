use Rattle.solver_sets.proofs.BodyLaws.{of_a_mover}
use Rattle.solver_sets.proofs.laws.ties_of_a_mover.Goals as goal

pub returns : goal.returns
returns c = of_a_mover
