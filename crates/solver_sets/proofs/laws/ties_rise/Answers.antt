use Rattle.solver_sets.proofs.TieLaws.{ties_rise}
use Rattle.solver_sets.proofs.laws.ties_rise.Goals as goal

pub returns : goal.returns
returns c = ties_rise
