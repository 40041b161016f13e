-- Which boxes a ray may meet something in.
use Rattle.std.specs.Prelude.{Bool, false, cond, ℤ, pos, neg_ℤ, ◌+ℤ◌, ◌-ℤ◌, ◌*ℤ◌, ◌≤ℤ◌, int_lt, int_le, unsigned_abs}
use Rattle.std.specs.Int.{int_min, int_max}
use Rattle.fixed_geom.specs.Boxes.{overlaps}
use Rattle.fixed_geom.specs.Vectors.{dot, cross, plus, minus}
use Rattle.fixed_geom.specs.declared.boxes.Box2.{Box2}
use Rattle.fixed_geom.specs.declared.vectors.Vec2.{Vec2}
use Rattle.shapes.specs.declared.beam.Beam.{Beam}
use Rattle.shape_rays.specs.declared.boxes.TheConstants.{RAY_SLACK}

-- the point at n / d of the ray's way lies in the box
pub record IsInAt (r : Beam) (n d : ℤ) (b : Box2) : Type 0 where
  pub left : (b.lo.x *ℤ d) ≤ℤ (r.from.x *ℤ d +ℤ r.along.x *ℤ n)
  pub right : (r.from.x *ℤ d +ℤ r.along.x *ℤ n) ≤ℤ (b.hi.x *ℤ d)
  pub down : (b.lo.y *ℤ d) ≤ℤ (r.from.y *ℤ d +ℤ r.along.y *ℤ n)
  pub up : (r.from.y *ℤ d +ℤ r.along.y *ℤ n) ≤ℤ (b.hi.y *ℤ d)

-- from the least to the greatest number on a way along one axis, with the slack on each side
abbrev pub lowest : ℤ → ℤ → ℤ
lowest from along = from +ℤ int_min along (pos 0) -ℤ RAY_SLACK

abbrev pub highest : ℤ → ℤ → ℤ
highest from along = from +ℤ int_max along (pos 0) +ℤ RAY_SLACK

-- the box round the ray's way, with the slack on each side
abbrev pub box_round : Beam → Box2
box_round r = record {
  lo = record { x = lowest r.from.x r.along.x; y = lowest r.from.y r.along.y };
  hi = record { x = highest r.from.x r.along.x; y = highest r.from.y r.along.y };
}

-- what two boxes that overlap have in common
abbrev pub common : Box2 → Box2 → Box2
common a b = record {
  lo = record { x = int_max a.lo.x b.lo.x; y = int_max a.lo.y b.lo.y };
  hi = record { x = int_min a.hi.x b.hi.x; y = int_min a.hi.y b.hi.y };
}

-- the width and the height of the box from low to high, with the slack on each side
abbrev pub extent : Vec2 → Vec2 → Vec2
extent low high = record { x = high.x -ℤ low.x +ℤ pos 2 *ℤ RAY_SLACK; y = high.y -ℤ low.y +ℤ pos 2 *ℤ RAY_SLACK }

-- the sizes of the parts of a way, exchanged
abbrev pub sizes_across : Vec2 → Vec2
sizes_across f = record { x = pos (unsigned_abs f.y); y = pos (unsigned_abs f.x) }

-- a number is at most the limit in size
abbrev pub is_at_most : ℤ → ℤ → Bool
is_at_most number limit = cond (int_lt number (neg_ℤ limit)) false (int_le number limit)

-- the line along f passes the box from low to high, with the slack on each side, both taken from a place on the line:
-- the box's middle is no further from the line than the box reaches, both times two and the length of f
abbrev pub is_crossed : Vec2 → Vec2 → Vec2 → Bool
is_crossed f low high = is_at_most (cross (plus low high) f) (dot (extent low high) (sizes_across f))

-- the ray's way passes the box with the slack on each side: the box overlaps that round the way, and the ray's line
-- passes what the two have in common
unfoldable pub reaches : Beam → Box2 → Bool
reaches r b = cond (overlaps b (box_round r)) (is_crossed r.along (minus (common b (box_round r)).lo r.from) (minus (common b (box_round r)).hi r.from)) false
