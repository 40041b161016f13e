use Rattle.solver_sets.proofs.AmongLaws.{ties_picked}
use Rattle.solver_sets.proofs.laws.ties_are_picked.Goals as goal

pub returns : goal.returns
returns c = ties_picked
