use Rattle.solver_sets.proofs.CollideLaws.{same_names}
use Rattle.solver_sets.proofs.laws.same_ids_same_ties.Goals as goal

pub returns : goal.returns
returns c = same_names
