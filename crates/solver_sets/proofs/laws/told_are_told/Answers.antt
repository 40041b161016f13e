use Rattle.solver_sets.proofs.ToldLaws.{told_are_told}
use Rattle.solver_sets.proofs.laws.told_are_told.Goals as goal

pub returns : goal.returns
returns c = told_are_told
