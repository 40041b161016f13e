use Rattle.part_runs.proofs.SummedLaws.{parts_runs}
use Rattle.part_runs.proofs.laws.parts_are_runs.Goals as goal

pub returns : goal.returns
returns c = parts_runs
