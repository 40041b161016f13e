use Rattle.solver_sets.proofs.CollideLaws.{same_key}
use Rattle.solver_sets.proofs.laws.key_numbers_are_unique.Goals as goal

pub returns : goal.returns
returns c = same_key
