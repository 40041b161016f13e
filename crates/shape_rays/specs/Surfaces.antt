-- Trusted: Where a ray hits one shape: the point, and the way in which the shape's surface faces there.
use Rattle.std.specs.Prelude.{ℕ, cond, ℤ, pos, int_lt, ◌*ℤ◌, Option, None, Some}
use Rattle.fixed_geom.specs.Vectors.{unit_length, zero_vector, minus, moved, opposite}
use Rattle.fixed_geom.specs.declared.facings.Rot.{Rot}
use Rattle.fixed_geom.specs.declared.vectors.Vec2.{Vec2}
use Rattle.shapes.specs.Cores.{is_point, side}
use Rattle.shapes.specs.Manifolds.{manifold_of}
use Rattle.shapes.specs.Poses.{core_of}
use Rattle.shapes.specs.Rays.{ray_of}
use Rattle.shapes.specs.Spots.{across, up}
use Rattle.shapes.specs.declared.beam.Beam.{Beam}
use Rattle.shapes.specs.declared.pose.Core.{Core}
use Rattle.shapes.specs.declared.pose.Pose.{Pose}
use Rattle.shapes.specs.declared.shape.Shape.{Shape}
use Rattle.shapes.specs.declared.shape.Shape.TheVariants.{Circle, Capsule, Segment}
use Rattle.shape_rays.specs.declared.surfaces.ShapeHit.{ShapeHit}

-- the place at t 2^24ths of the ray's way, each coordinate to the nearest u
unfoldable pub point_at : Beam → ℕ → Vec2
point_at r t = moved r.from r.along (pos t *ℤ pos 64)

-- ---- a shape with a radius

abbrev pub unturned : Rot
unturned = record { c = unit_length; s = pos 0 }

-- a circle of no radius
abbrev pub point_shape : Shape
point_shape = Circle zero_vector (pos 0)

-- the normal of the contact of a shape, of a body with the facing q, with a point: from the nearest place of the
-- shape's core to the point, which is taken from the body's centre. Of a point on the core itself it is square to the
-- core, to its left, or up where the core is a point
unfoldable pub normal_to : Shape → Rot → Vec2 → Vec2
normal_to s q v = (manifold_of s (record { x = zero_vector; rot = q }) point_shape (record { x = v; rot = unturned })).first.normal

-- ---- a segment, which has no radius: a hit lies on its core, but for rounding

-- the unit vector square to the core, to its left; up where the core is a point
abbrev pub left_of : Core → Vec2
left_of c = cond (is_point c) up (across c)

-- the one of the two unit vectors square to the core that leads to the side on which e lies; the left one where e lies
-- on the core's line
unfoldable pub side_normal : Core → Vec2 → Vec2
side_normal c e = cond (int_lt (side c e) (pos 0)) (opposite (left_of c)) (left_of c)

-- ---- a hit

-- the normal, from the shape outwards, where a ray that starts at e hits a shape, of a body with the pose o, at the
-- point v
abbrev pub normal_at : Shape → Pose → Vec2 → Vec2 → Vec2
normal_at (Circle center radius) o e v = normal_to (Circle center radius) o.rot (minus v o.x)
normal_at (Capsule first second radius) o e v = normal_to (Capsule first second radius) o.rot (minus v o.x)
normal_at (Segment first second) o e v = side_normal (core_of (Segment first second) o) e

abbrev pub shape_hit_at : Beam → Shape → Pose → Option ℕ → Option ShapeHit
shape_hit_at r s o None = None
shape_hit_at r s o (Some t) = Some (record { fraction = t; point = point_at r t; normal = normal_at s o r.from (point_at r t) })

-- the ray's hit on a shape of a body with the pose o
abbrev pub shape_hit : Beam → Shape → Pose → Option ShapeHit
shape_hit r s o = shape_hit_at r s o (ray_of s o r.from r.along)
