use Rattle.part_runs.proofs.StageLaws.{homes_below}
use Rattle.part_runs.proofs.laws.homes_are_below.Goals as goal

pub returns : goal.returns
returns c = homes_below
