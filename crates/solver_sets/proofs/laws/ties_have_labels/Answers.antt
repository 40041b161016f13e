use Rattle.solver_sets.proofs.TieLaws.{ties_have_labels}
use Rattle.solver_sets.proofs.laws.ties_have_labels.Goals as goal

pub returns : goal.returns
returns c = ties_have_labels
