use Rattle.solver_sets.proofs.CollideLaws.{few_begin}
use Rattle.solver_sets.proofs.laws.few_begin.Goals as goal

pub returns : goal.returns
returns c = few_begin
