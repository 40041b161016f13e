-- The hit on a shape that was found by its name is that on the shape of this name.
use Rattle.std.proofs.Common.{◌≡◌, Bool, true, false, cond, Option, None, Some, refl}
use Rattle.std.specs.Prelude.{Err, option_map, slice_get}
use Rattle.contacts_base.specs.declared.key.ShapeId.{ShapeId}
use Rattle.fixed_geom.specs.declared.refusal.Refusal.TheVariants.{StaleHandle}
use Rattle.plain_world.specs.Bodies.{pose_of}
use Rattle.plain_world.specs.Placement.{shape_in}
use Rattle.plain_world.specs.declared.body.Body.{Body}
use Rattle.shapes.specs.declared.beam.Beam.{Beam}
use Rattle.shapes.specs.declared.pose.Pose.{Pose}
use Rattle.shapes.specs.declared.shape.ShapeDef.{ShapeDef}
use Rattle.world_queries.specs.ByBoxes.{hit_of_posed}
use Rattle.world_queries.specs.OnShape.{hit_of_shape, hit_of_body}
use Rattle.world_queries.specs.Posed.{named}

found_if : (r : Beam) (id : ShapeId) (o : Pose) (t : Bool) (d : Option ShapeDef) → hit_of_posed r (option_map (named id) (cond t (option_map (λ (e : ShapeDef). (e.shape, o)) d) None)) ≡ cond t (hit_of_shape r o d) (Err StaleHandle)
found_if r id o true None = refl
found_if r id o true (Some d) = refl
found_if r id o false d = refl

pub found_hit : (r : Beam) (id : ShapeId) (o : Option Body) → hit_of_posed r (option_map (named id) (shape_in o id.index)) ≡ hit_of_body r o id
found_hit r id None = refl
found_hit r id (Some b) = found_if r id (pose_of b) b.enabled (slice_get b.shapes id.index)
