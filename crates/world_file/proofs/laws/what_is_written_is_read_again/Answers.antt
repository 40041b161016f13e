use Rattle.world_file.proofs.AgainSame.{what_is_read_again_goes_on_the_same}
use Rattle.world_file.proofs.BackWhole.{what_is_written_is_read_again}
use Rattle.world_file.proofs.laws.what_is_written_is_read_again.Goals as goal

pub returns-clause-again : goal.returns-clause-again
returns-clause-again c = what_is_written_is_read_again

pub returns-clause-same : goal.returns-clause-same
returns-clause-same c = what_is_read_again_goes_on_the_same
