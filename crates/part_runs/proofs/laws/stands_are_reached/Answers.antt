use Rattle.part_runs.proofs.ReachLaws.{stands_reached}
use Rattle.part_runs.proofs.laws.stands_are_reached.Goals as goal

pub returns : goal.returns
returns c = stands_reached
