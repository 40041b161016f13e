use Rattle.world_lock.proofs.Replaying.{answered}
use Rattle.world_lock.proofs.journalled.applied.Goals as goal

pub returns-clause-answer : goal.returns-clause-answer
returns-clause-answer g c = answered _ _ _ _ c.apply_by-answer.ensures
