use Rattle.world_core.proofs.FrameLaws.{frame_formed}
use Rattle.world_core.proofs.frame.Frame.bodies.Goals as goal

pub returns-clause-formed : goal.returns-clause-formed
returns-clause-formed c = rw (← c.self.view_is) (frame_formed _ c.self.invariant)
