use Rattle.shapes.specs.Poses.{IsPose}
use Rattle.shapes.specs.Shapes.{IsShape}
use Rattle.shapes.specs.declared.pose.Pose.{Pose}
use Rattle.shapes.specs.declared.shape.Shape.{Shape}
use Rattle.world_core.proofs.QueryLaws.{shape_seen, some_before}
use Rattle.world_core.proofs.world.WorldCore.shape_of.Goals as goal

pub returns-clause-shape : goal.returns-clause-shape
returns-clause-shape c =
    some_before (λ found. (found.0.now, found.1)) (λ (f : Shape × Pose). IsShape f.0) c.shape_of.result
    (rw (c.shape_of.ensures, c.bodies.ensures.bodies) (shape_seen _ c.args.id.slot c.args.id.index c.bodies.ensures.sound.formed.bodies).shape)

pub returns-clause-pose : goal.returns-clause-pose
returns-clause-pose c =
    some_before (λ found. (found.0.now, found.1)) (λ (f : Shape × Pose). IsPose f.1) c.shape_of.result
    (rw (c.shape_of.ensures, c.bodies.ensures.bodies) (shape_seen _ c.args.id.slot c.args.id.index c.bodies.ensures.sound.formed.bodies).pose)
