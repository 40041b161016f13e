use Rattle.part_runs.proofs.FairVisits.{visits_fair}
use Rattle.part_runs.proofs.laws.visits_are_fair.Goals as goal

pub returns : goal.returns
returns c = visits_fair
