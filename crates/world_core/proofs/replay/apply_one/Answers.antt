use Rattle.world_core.proofs.GrownLaws.{answered_grows}
use Rattle.world_core.proofs.replay.apply_one.Goals as goal

pub returns-clause-grown : goal.returns-clause-grown
returns-clause-grown c = answered_grows _ _ c.args.command.now c.apply-answer.result c.apply-answer.ensures c.know_sound.ensures c.know_sound-2.ensures
