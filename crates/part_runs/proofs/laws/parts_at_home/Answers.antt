use Rattle.part_runs.proofs.HomeLaws.{parts_home}
use Rattle.part_runs.proofs.laws.parts_at_home.Goals as goal

pub returns : goal.returns
returns c = parts_home
