use Rattle.solver_sets.proofs.TieLaws.{alike_ties}
use Rattle.solver_sets.proofs.laws.alike_bodies_keep_ties.Goals as goal

pub returns : goal.returns
returns c = alike_ties
