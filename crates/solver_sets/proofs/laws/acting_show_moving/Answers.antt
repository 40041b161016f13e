use Rattle.solver_sets.proofs.MovingLaws.{show_moving}
use Rattle.solver_sets.proofs.laws.acting_show_moving.Goals as goal

pub returns : goal.returns
returns c = show_moving
