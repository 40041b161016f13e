-- Trusted: What a ray hits of one shape.
use Rattle.std.specs.Prelude.{cond, List, Option, Some, None, Result, Ok, Err, slice_get}
use Rattle.contacts_base.specs.declared.key.ShapeId.{ShapeId}
use Rattle.fixed_geom.specs.declared.refusal.Refusal.{Refusal}
use Rattle.fixed_geom.specs.declared.refusal.Refusal.TheVariants.{StaleHandle}
use Rattle.plain_world.specs.Bodies.{pose_of}
use Rattle.plain_world.specs.Slots.{body_at}
use Rattle.plain_world.specs.declared.body.Body.{Body}
use Rattle.shape_rays.specs.Surfaces.{shape_hit}
use Rattle.shape_rays.specs.declared.surfaces.ShapeHit.{ShapeHit}
use Rattle.shapes.specs.declared.beam.Beam.{Beam}
use Rattle.shapes.specs.declared.pose.Pose.{Pose}
use Rattle.shapes.specs.declared.shape.ShapeDef.{ShapeDef}

-- the ray's hit on a shape of a body with the pose o, if it hits it; refused where there is no shape
abbrev pub hit_of_shape : Beam → Pose → Option ShapeDef → Result (Option ShapeHit) Refusal
hit_of_shape r o None = Err StaleHandle
hit_of_shape r o (Some d) = Ok (shape_hit r d.shape o)

-- on the shape at this place among those of a body, which has to be enabled
abbrev pub hit_of_body : Beam → Option Body → ShapeId → Result (Option ShapeHit) Refusal
hit_of_body r None id = Err StaleHandle
hit_of_body r (Some b) id = cond b.enabled (hit_of_shape r (pose_of b) (slice_get b.shapes id.index)) (Err StaleHandle)

-- on the shape of this name
abbrev pub hit_on_shape : List (Option Body) → Beam → ShapeId → Result (Option ShapeHit) Refusal
hit_on_shape bodies r id = hit_of_body r (body_at bodies id.slot) id
