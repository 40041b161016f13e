use Rattle.solver_sets.proofs.TieLaws.{ties_named}
use Rattle.solver_sets.proofs.laws.ties_are_within.Goals as goal

pub returns : goal.returns
returns c = ties_named
