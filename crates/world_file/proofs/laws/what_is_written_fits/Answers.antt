use Rattle.world_file.proofs.AgainWhole.{what_is_written_fits}
use Rattle.world_file.proofs.laws.what_is_written_fits.Goals as goal

pub returns : goal.returns
returns c = what_is_written_fits
