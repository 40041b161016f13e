use Rattle.world_file.proofs.ReadSmall.{what_is_read_has_small_totals}
use Rattle.world_file.proofs.ReadSound.{what_is_read_is_sound}
use Rattle.world_file.proofs.laws.what_is_read_is_sound.Goals as goal

pub returns-clause-sound : goal.returns-clause-sound
returns-clause-sound c = what_is_read_is_sound

pub returns-clause-small : goal.returns-clause-small
returns-clause-small c = what_is_read_has_small_totals
