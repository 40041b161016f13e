use Rattle.part_runs.proofs.BackLaws.{runs_back}
use Rattle.part_runs.proofs.laws.runs_are_read_back.Goals as goal

pub returns : goal.returns
returns c = runs_back
