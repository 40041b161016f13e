use Rattle.solver_sets.proofs.CollideLaws.{same_constraint}
use Rattle.solver_sets.proofs.laws.constraint_numbers_are_unique.Goals as goal

pub returns : goal.returns
returns c = same_constraint
