-- Trusted: Vectors of whole numbers; a unit vector is times 2^30.
use Rattle.std.specs.Prelude.{ℕ, Bool, ◌&&◌, ◌≤◌, ◌^◌, ℤ, pos, ◌+ℤ◌, ◌-ℤ◌, ◌*ℤ◌, neg_ℤ, unsigned_abs, nat_le}
use Rattle.fixed_geom.specs.Numbers.{rdiv, isqrt}
use Rattle.fixed_geom.specs.declared.vectors.TheConstants.{UNIT}
use Rattle.fixed_geom.specs.declared.vectors.Vec2.{Vec2}

-- one, for a unit vector and a facing
abbrev pub unit_length : ℤ
unit_length = UNIT

-- both components are at most n in size
pub record IsWithin (n : ℕ) (v : Vec2) : Type 0 where
  pub x : unsigned_abs v.x ≤ n
  pub y : unsigned_abs v.y ≤ n

abbrev pub is_within : ℕ → Vec2 → Bool
is_within n v = nat_le (unsigned_abs v.x) n && nat_le (unsigned_abs v.y) n

unfoldable pub dot : Vec2 → Vec2 → ℤ
dot a b = a.x *ℤ b.x +ℤ a.y *ℤ b.y

unfoldable pub cross : Vec2 → Vec2 → ℤ
cross a b = a.x *ℤ b.y -ℤ a.y *ℤ b.x

abbrev pub zero_vector : Vec2
zero_vector = record { x = pos 0; y = pos 0 }

abbrev pub plus : Vec2 → Vec2 → Vec2
plus a b = record { x = a.x +ℤ b.x; y = a.y +ℤ b.y }

abbrev pub minus : Vec2 → Vec2 → Vec2
minus a b = record { x = a.x -ℤ b.x; y = a.y -ℤ b.y }

abbrev pub opposite : Vec2 → Vec2
opposite v = record { x = neg_ℤ v.x; y = neg_ℤ v.y }

-- the length of d, rounded down
unfoldable pub span : Vec2 → ℤ
span d = isqrt (dot d d)

-- the unit vector along d, which is not zero
unfoldable pub unit : Vec2 → Vec2
unit d = record { x = rdiv (d.x *ℤ unit_length) (span d); y = rdiv (d.y *ℤ unit_length) (span d) }

-- p moved by t / 2^30 times d
abbrev pub moved : Vec2 → Vec2 → ℤ → Vec2
moved p d t = record { x = p.x +ℤ rdiv (d.x *ℤ t) unit_length; y = p.y +ℤ rdiv (d.y *ℤ t) unit_length }
