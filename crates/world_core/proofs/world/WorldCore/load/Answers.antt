use Rattle.serde_json.specs.View.{view}
use Rattle.world_file.proofs.ReadSound.{what_is_read_is_sound}
use Rattle.world_core.proofs.SavedLaws.{loaded_again, refused_again}
use Rattle.world_core.proofs.world.WorldCore.load.Goals as goal

pub from_plain-requires : goal.from_plain-requires
from_plain-requires c = record { sound = what_is_read_is_sound (view c.args.value.now) c.in-Ok.plain c.in-Ok.totals c.in-Ok.ensures.read }

pub returns-in-Ok-from_plain-clause-again : goal.returns-in-Ok-from_plain-clause-again
returns-in-Ok-from_plain-clause-again c = loaded_again (view c.args.value.now) c.in-Ok.plain c.in-Ok.totals c.in-Ok-from_plain.made c.in-Ok.ensures.read c.in-Ok-from_plain.ensures.made

pub returns-clause-again : goal.returns-clause-again
returns-clause-again c = refused_again (view c.args.value.now) c.in-Err.broken c.in-Err.ensures.refused
