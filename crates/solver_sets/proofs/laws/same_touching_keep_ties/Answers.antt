use Rattle.solver_sets.proofs.TieLaws.{touching_ties}
use Rattle.solver_sets.proofs.laws.same_touching_keep_ties.Goals as goal

pub returns : goal.returns
returns c = touching_ties
