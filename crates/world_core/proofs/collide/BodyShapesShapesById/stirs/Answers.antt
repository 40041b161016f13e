use Rattle.std.proofs.Common.{subst, sym}
use Rattle.plain_world.specs.Bodies.{AreBodies}
use Rattle.world_core.proofs.collide.BodyShapesShapesById.stirs.Goals as goal

pub stirs_by_id-requires : goal.stirs_by_id-requires
stirs_by_id-requires c = subst AreBodies (sym c.bodies.ensures) c.self.invariant.all
