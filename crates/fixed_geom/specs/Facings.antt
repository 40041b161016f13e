-- Trusted: Facings: a direction as a cosine and a sine, both times 2^30.
use Rattle.std.specs.Prelude.{Bool, ◌&&◌, ◌+◌, ◌-◌, ◌*◌, ◌^◌, ◌<◌, ◌≤◌, ℤ, pos, ◌+ℤ◌, ◌-ℤ◌, ◌*ℤ◌, unsigned_abs, cond, int_le}
use Rattle.std.specs.Ordering.{int_eq}
use Rattle.fixed_geom.specs.Numbers.{rdiv}
use Rattle.fixed_geom.specs.Vectors.{unit_length, span, unit}
use Rattle.fixed_geom.specs.declared.vectors.Vec2.{Vec2}
use Rattle.fixed_geom.specs.declared.facings.TheConstants.{MAX_FACING, MIN_FACING}
use Rattle.fixed_geom.specs.declared.facings.Rot.{Rot}

-- the unit vector that a facing faces along
abbrev pub direction : Rot → Vec2
direction q = record { x = q.c; y = q.s }

-- the length is within 2 of 2^30
unfoldable pub is_facing : Rot → Bool
is_facing q = int_le (pos MIN_FACING) (span (direction q)) && int_le (span (direction q)) (pos MAX_FACING)

-- the length is within 2 of 2^30, said of its square
pub record IsFacing (q : Rot) : Type 0 where
  pub c : unsigned_abs q.c ≤ MAX_FACING
  pub s : unsigned_abs q.s ≤ MAX_FACING
  pub long : MIN_FACING * MIN_FACING ≤ unsigned_abs q.c * unsigned_abs q.c + unsigned_abs q.s * unsigned_abs q.s
  pub short : unsigned_abs q.c * unsigned_abs q.c + unsigned_abs q.s * unsigned_abs q.s < (MAX_FACING + 1) * (MAX_FACING + 1)

-- v turned by the facing q
abbrev pub rotate : Rot → Vec2 → Vec2
rotate q v = record {
  x = rdiv (q.c *ℤ v.x -ℤ q.s *ℤ v.y) unit_length;
  y = rdiv (q.s *ℤ v.x +ℤ q.c *ℤ v.y) unit_length;
}

-- q's direction moved along its own tangent by w / 2^30
abbrev pub swung : Rot → ℤ → Vec2
swung q w = record { x = q.c -ℤ rdiv (w *ℤ q.s) unit_length; y = q.s +ℤ rdiv (w *ℤ q.c) unit_length }

-- d is at least half as long as a unit vector
pub record IsLong (d : Vec2) : Type 0 where
  pub long : (2 ^ 29) * (2 ^ 29) ≤ unsigned_abs d.x * unsigned_abs d.x + unsigned_abs d.y * unsigned_abs d.y

-- the facing along d
abbrev pub facing_along : Vec2 → Rot
facing_along d = record { c = (unit d).x; s = (unit d).y }

-- q turned by the spin w, the tangent of an angle times 2^30
unfoldable pub turn : Rot → ℤ → Rot
turn q w = cond (int_eq w (pos 0)) q (facing_along (swung q w))
