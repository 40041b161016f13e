use Rattle.std.proofs.Common.{refl}
use Rattle.std.proofs.lemmas.Int.{to_z-of_z}
use Rattle.std.specs.Int.{w64}
use mir.Val.{SFits}
use Rattle.shapes.specs.Shapes.{radius_of}
use Rattle.shapes.specs.Poses.{core_of}
use Rattle.shapes.specs.Rays.{beam_of}
use Rattle.shapes.proofs.RayLemmas.{IsRayOf, is_ray_of}
use Rattle.shapes.proofs.rays.ray.Goals as goal

pub returns-clause-value : goal.returns-clause-value
returns-clause-value c =
    let fits : SFits w64 c.radius.result = record { sfits = c.radius.type_inv } in
    let value = simp to_z-of_z at c.core_ray.ensures in
    rw (value, c.core_of.ensures.value, c.radius.ensures) refl

whole : (c : goal.After-core_ray) → IsRayOf (beam_of c.args.from c.args.along) (core_of c.args.shape.now c.args.pose) (radius_of c.args.shape.now) c.core_ray.result
whole c =
    let fits : SFits w64 c.radius.result = record { sfits = c.radius.type_inv } in
    let value = simp to_z-of_z at c.core_ray.ensures in
    is_ray_of (beam_of c.args.from c.args.along) (core_of c.args.shape.now c.args.pose) (radius_of c.args.shape.now) c.core_ray.result
    (rw (value, c.core_of.ensures.value, c.radius.ensures) refl)

pub returns-clause-within : goal.returns-clause-within
returns-clause-within c = (whole c).within

pub returns-clause-start : goal.returns-clause-start
returns-clause-start c = (whole c).start

pub returns-clause-earliest : goal.returns-clause-earliest
returns-clause-earliest c = (whole c).earliest
