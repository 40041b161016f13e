use Rattle.solver_sets.proofs.BodyLaws.{of_no_mover}
use Rattle.solver_sets.proofs.laws.ties_of_no_mover.Goals as goal

pub returns : goal.returns
returns c = of_no_mover
