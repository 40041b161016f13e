use Rattle.solver_sets.proofs.SleptLaws.{told_bodies_tell}
use Rattle.solver_sets.proofs.laws.told_bodies_tell.Goals as goal

pub returns : goal.returns
returns c = told_bodies_tell
