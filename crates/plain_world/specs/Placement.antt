-- Where the shapes of enabled bodies are.
use Rattle.std.specs.Prelude.{ℕ, cond, List, Option, Some, None, option_map, slice_get}
use Rattle.contacts_base.specs.declared.key.ShapeId.{ShapeId}
use Rattle.plain_world.specs.declared.body.Body.{Body}
use Rattle.plain_world.specs.Bodies.{pose_of}
use Rattle.plain_world.specs.Slots.{body_at}
use Rattle.shapes.specs.declared.pose.Pose.{Pose}
use Rattle.shapes.specs.declared.shape.Shape.{Shape}
use Rattle.shapes.specs.declared.shape.ShapeDef.{ShapeDef}

-- a body's shape at this place among its shapes, with the body's pose: none of a disabled body
abbrev pub shape_in : Option Body → ℕ → Option (Shape × Pose)
shape_in None index = None
shape_in (Some b) index = cond b.enabled (option_map (λ (d : ShapeDef). (d.shape, pose_of b)) (slice_get b.shapes index)) None

-- the shape of this name, with the pose of its body: none where it names no shape of an enabled body
abbrev pub shape_of : List (Option Body) → ShapeId → Option (Shape × Pose)
shape_of bodies id = shape_in (body_at bodies id.slot) id.index
