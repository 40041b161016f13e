-- Trusted: Boxes round shapes.
use Rattle.std.specs.Int.{int_min, int_max}
use Rattle.fixed_geom.specs.Boxes.{grow}
use Rattle.fixed_geom.specs.declared.boxes.Box2.{Box2}
use Rattle.shapes.specs.declared.limits.TheConstants.{MARGIN}
use Rattle.shapes.specs.declared.pose.Pose.{Pose}
use Rattle.shapes.specs.declared.pose.Core.{Core}
use Rattle.shapes.specs.declared.shape.Shape.{Shape}
use Rattle.shapes.specs.Shapes.{radius_of}
use Rattle.shapes.specs.Poses.{core_of}

-- the least box that holds both ends
unfoldable pub box_of_ends : Core → Box2
box_of_ends c = record {
  lo = record { x = int_min c.p.x c.q.x; y = int_min c.p.y c.q.y };
  hi = record { x = int_max c.p.x c.q.x; y = int_max c.p.y c.q.y };
}

-- the box of a shape of a body with the pose o
abbrev pub tight_box : Shape → Pose → Box2
tight_box s o = grow (box_of_ends (core_of s o)) (radius_of s)

-- a tight box with room to move in
abbrev pub fat_box : Box2 → Box2
fat_box tight = grow tight MARGIN
