use Rattle.json.specs.Print.{escape_byte}
use Rattle.loaded_text.proofs.BodyKeys.{still_stands}
use Rattle.loaded_text.proofs.body_members.read_still.Goals as goal

pub returns-clause-text : goal.returns-clause-text
unfolding escape_byte
returns-clause-text c = still_stands c.args.kind c.in_ok-timer.timer _ _ c.requires c.in_ok-timer.ensures.text
