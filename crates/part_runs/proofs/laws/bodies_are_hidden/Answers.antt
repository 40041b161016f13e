use Rattle.part_runs.proofs.PartLaws.{bodies_hidden}
use Rattle.part_runs.proofs.laws.bodies_are_hidden.Goals as goal

pub returns : goal.returns
returns c = bodies_hidden
