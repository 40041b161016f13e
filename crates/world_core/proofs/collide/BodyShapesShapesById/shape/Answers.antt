use Rattle.std.proofs.Common.{subst, sym}
use Rattle.plain_world.specs.Bodies.{AreBodies}
use Rattle.world_core.proofs.collide.BodyShapesShapesById.shape.Goals as goal

pub shape_with_id-requires : goal.shape_with_id-requires
shape_with_id-requires c = subst AreBodies (sym c.bodies.ensures) c.self.invariant.all
