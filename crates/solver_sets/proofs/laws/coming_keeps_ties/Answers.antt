use Rattle.solver_sets.proofs.BodyLaws.{coming}
use Rattle.solver_sets.proofs.laws.coming_keeps_ties.Goals as goal

pub returns : goal.returns
returns c = coming
