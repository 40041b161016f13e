-- Trusted: The nearest point of a core, and whether two cores cross.
use Rattle.std.specs.Prelude.{Bool, false, ◌&&◌, ◌||◌, cond, ℤ, pos, int_lt, ◌*ℤ◌}
use Rattle.std.specs.Ordering.{int_eq}
use Rattle.fixed_geom.specs.Numbers.{rdiv}
use Rattle.fixed_geom.specs.Vectors.{unit_length, dot, cross, minus, moved}
use Rattle.fixed_geom.specs.declared.vectors.Vec2.{Vec2}
use Rattle.shapes.specs.declared.pose.Core.{Core}

-- both ends are at one place
unfoldable pub is_point : Core → Bool
is_point c = int_eq c.p.x c.q.x && int_eq c.p.y c.q.y

abbrev pub way_of : Core → Vec2
way_of c = minus c.q c.p

-- t within 0 to 2^30
unfoldable pub part_clamped : ℤ → ℤ
part_clamped t = cond (int_lt t (pos 0)) (pos 0) (cond (int_lt unit_length t) unit_length t)

-- how far along the core its point nearest to e lies, times 2^30
unfoldable pub share_of : Core → Vec2 → ℤ
share_of c e = cond (is_point c) (pos 0) (part_clamped (rdiv (dot (minus e c.p) (way_of c) *ℤ unit_length) (dot (way_of c) (way_of c))))

-- the core's point nearest to e
unfoldable pub closest : Core → Vec2 → Vec2
closest c e = moved c.p (way_of c) (share_of c e)

-- on which side of the core's line e lies: above zero to the left
unfoldable pub side : Core → Vec2 → ℤ
side c e = cross (way_of c) (minus e c.p)

-- one is above zero and the other below
abbrev pub are_opposite : ℤ → ℤ → Bool
are_opposite a b = (int_lt (pos 0) a && int_lt b (pos 0)) || (int_lt a (pos 0) && int_lt (pos 0) b)

-- the ends of d lie strictly on different sides of the line of c
unfoldable pub is_parted : Core → Core → Bool
is_parted c d = are_opposite (side c d.p) (side c d.q)

unfoldable pub cores_cross : Core → Core → Bool
cores_cross c d = cond (is_point c) false (cond (is_point d) false (cond (is_parted c d) (is_parted d c) false))
