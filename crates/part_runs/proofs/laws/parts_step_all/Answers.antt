use Rattle.part_runs.proofs.StepLaws.{parts_step}
use Rattle.part_runs.proofs.laws.parts_step_all.Goals as goal

pub returns : goal.returns
returns c = parts_step
