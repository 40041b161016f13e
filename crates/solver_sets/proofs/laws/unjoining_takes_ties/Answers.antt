use Rattle.solver_sets.proofs.JoinLaws.{unjoining}
use Rattle.solver_sets.proofs.laws.unjoining_takes_ties.Goals as goal

pub returns : goal.returns
returns c = unjoining
