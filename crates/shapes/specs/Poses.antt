-- Trusted: Where bodies and cores are in the world.
use Rattle.std.specs.Prelude.{◌^◌, unsigned_abs}
use Rattle.fixed_geom.specs.Vectors.{IsWithin, plus}
use Rattle.fixed_geom.specs.Facings.{IsFacing, rotate}
use Rattle.fixed_geom.specs.declared.limits.TheConstants.{MAX_POSITION}
use Rattle.fixed_geom.specs.declared.vectors.Vec2.{Vec2}
use Rattle.shapes.specs.declared.pose.Pose.{Pose}
use Rattle.shapes.specs.declared.pose.Core.{Core}
use Rattle.shapes.specs.declared.shape.Shape.{Shape}
use Rattle.shapes.specs.Shapes.{first_end, second_end}

-- a body's position and facing
pub record IsPose (o : Pose) : Type 0 where
  pub x : IsWithin (unsigned_abs MAX_POSITION) o.x
  pub rot : IsFacing o.rot

-- a core's position in the world
pub record IsPosed (c : Core) : Type 0 where
  pub p : IsWithin (2 ^ 37) c.p
  pub q : IsWithin (2 ^ 37) c.q

-- where in the world v is, given from the centre of a body with the pose o
unfoldable pub transformed : Pose → Vec2 → Vec2
transformed o v = plus o.x (rotate o.rot v)

-- the core of the shape s of a body with the pose o
abbrev pub core_of : Shape → Pose → Core
core_of s o = record { p = transformed o (first_end s); q = transformed o (second_end s) }
