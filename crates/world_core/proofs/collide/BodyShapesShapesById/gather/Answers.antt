use Rattle.std.proofs.Common.{subst, sym}
use Rattle.plain_world.specs.Bodies.{AreBodies}
use Rattle.world_core.proofs.collide.BodyShapesShapesById.gather.Goals as goal

pub gather-requires-clause-bodies : goal.gather-requires-clause-bodies
gather-requires-clause-bodies c = subst AreBodies (sym c.bodies.ensures) c.self.invariant.all
