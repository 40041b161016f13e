use Rattle.part_runs.proofs.MadeLaws.{walks_made}
use Rattle.part_runs.proofs.laws.walks_are_made.Goals as goal

pub returns : goal.returns
returns c = walks_made
