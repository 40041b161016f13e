use Rattle.solver_sets.proofs.TieLaws.{movers_have_labels}
use Rattle.solver_sets.proofs.laws.movers_have_labels.Goals as goal

pub returns : goal.returns
returns c = movers_have_labels
