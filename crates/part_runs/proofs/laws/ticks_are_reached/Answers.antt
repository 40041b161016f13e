use Rattle.part_runs.proofs.ReachLaws.{ticks_reached}
use Rattle.part_runs.proofs.laws.ticks_are_reached.Goals as goal

pub returns : goal.returns
returns c = ticks_reached
