use Rattle.solver_sets.proofs.CollideLaws.{keys_change}
use Rattle.solver_sets.proofs.laws.keys_change.Goals as goal

pub returns : goal.returns
returns c = keys_change
