use Rattle.solver_sets.proofs.ToldLaws.{telling}
use Rattle.solver_sets.proofs.laws.telling_keeps_ties.Goals as goal

pub returns : goal.returns
returns c = telling
