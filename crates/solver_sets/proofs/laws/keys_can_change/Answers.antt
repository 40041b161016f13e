use Rattle.solver_sets.proofs.CollideLaws.{keys_can_change}
use Rattle.solver_sets.proofs.laws.keys_can_change.Goals as goal

pub returns : goal.returns
returns c = keys_can_change
