use Rattle.part_runs.proofs.MoveLaws.{own_moves_told}
use Rattle.part_runs.proofs.laws.own_moves_tell.Goals as goal

pub returns : goal.returns
returns c = own_moves_told
