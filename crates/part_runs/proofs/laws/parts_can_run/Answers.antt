use Rattle.part_runs.proofs.PartLaws.{parts_can}
use Rattle.part_runs.proofs.laws.parts_can_run.Goals as goal

pub returns : goal.returns
returns c = parts_can
