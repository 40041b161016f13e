use Rattle.dillmonth.proofs.MovingLaws.{is_body}
use Rattle.dillmonth.proofs.moving.sound_body.Goals as goal

pub returns-clause-sound : goal.returns-clause-sound
returns-clause-sound c = is_body c.args.world.now c.args.body c.body_named.result c.know_sound.ensures c.body_named.ensures
