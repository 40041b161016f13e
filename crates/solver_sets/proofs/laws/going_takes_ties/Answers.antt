use Rattle.solver_sets.proofs.BodyLaws.{going}
use Rattle.solver_sets.proofs.laws.going_takes_ties.Goals as goal

pub returns : goal.returns
returns c = going
