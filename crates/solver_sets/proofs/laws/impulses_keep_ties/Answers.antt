use Rattle.solver_sets.proofs.TieLaws.{impulses_ties}
use Rattle.solver_sets.proofs.laws.impulses_keep_ties.Goals as goal

pub returns : goal.returns
returns c = impulses_ties
