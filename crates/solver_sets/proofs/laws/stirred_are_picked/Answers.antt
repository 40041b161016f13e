use Rattle.solver_sets.proofs.AmongLaws.{stirred_picked}
use Rattle.solver_sets.proofs.laws.stirred_are_picked.Goals as goal

pub returns : goal.returns
returns c = stirred_picked
