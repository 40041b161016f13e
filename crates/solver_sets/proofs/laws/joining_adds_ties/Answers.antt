use Rattle.solver_sets.proofs.JoinLaws.{joining}
use Rattle.solver_sets.proofs.laws.joining_adds_ties.Goals as goal

pub returns : goal.returns
returns c = joining
