use Rattle.solver_sets.proofs.TieLaws.{lists_members}
use Rattle.solver_sets.proofs.laws.lists_are_members.Goals as goal

pub returns : goal.returns
returns c = lists_members
