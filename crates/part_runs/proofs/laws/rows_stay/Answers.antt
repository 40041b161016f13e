use Rattle.part_runs.proofs.MoveLaws.{rows_there}
use Rattle.part_runs.proofs.laws.rows_stay.Goals as goal

pub returns : goal.returns
returns c = rows_there
