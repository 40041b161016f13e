-- Circles in the world, and the point at which two of them touch.
use Rattle.std.specs.Prelude.{◌^◌, ◌≤◌, false, pos, ◌≤ℤ◌, unsigned_abs, Option, Some, None}
use Rattle.fixed_geom.specs.Vectors.{IsWithin}
use Rattle.fixed_geom.specs.declared.vectors.Vec2.{Vec2}
use Rattle.shapes.specs.declared.discs.Disc.{Disc}
use Rattle.shapes.specs.declared.points.Point.{Point}
use Rattle.shapes.specs.declared.pose.Core.{Core}
use Rattle.shapes.specs.declared.pose.Pose.{Pose}
use Rattle.shapes.specs.declared.shape.Shape.{Shape}
use Rattle.shapes.specs.declared.shape.Shape.TheVariants.{Circle, Capsule, Segment}
use Rattle.shapes.specs.declared.spots.Pair.{Pair}
use Rattle.shapes.specs.Manifolds.{point_of}
use Rattle.shapes.specs.Poses.{transformed}
use Rattle.shapes.specs.Spots.{measured, spot_of}

-- what a circle of a body is in the world
abbrev pub disc_of : Shape → Pose → Option Disc
disc_of (Circle center radius) o = Some (record { center = transformed o center; radius = radius })
disc_of (Capsule first second radius) o = None
disc_of (Segment first second) o = None

pub record IsDisc (d : Disc) : Type 0 where
  pub center : IsWithin (2 ^ 37) d.center
  pub nonnegative : pos 0 ≤ℤ d.radius
  pub radius : unsigned_abs d.radius ≤ 2 ^ 24

-- a core of one point
abbrev pub point_core : Vec2 → Core
point_core v = record { p = v; q = v }

-- two circles by their cores, which don't cross
abbrev pub disc_pair : Disc → Disc → Pair
disc_pair a b = record { a = point_core a.center; b = point_core b.center; radius_a = a.radius; radius_b = b.radius; crossing = false }

-- the point between the two centres, of bodies with the centres x and y
unfoldable pub disc_point : Disc → Disc → Vec2 → Vec2 → Point
disc_point a b x y = point_of x y (spot_of (disc_pair a b) (measured 0 a.center b.center))
