-- Trusted: How one body moves in a tick: its velocity and spin, gravity, the speed limit, and the move itself.
use Rattle.std.specs.Prelude.{◌≡◌, ℕ, zero, ◌≤◌, ◌^◌, ℤ, pos, negsuc, neg_ℤ, ◌+ℤ◌, ◌*ℤ◌, ◌≤ℤ◌, unsigned_abs, cond, nat_le}
use Rattle.fixed_geom.specs.Numbers.{rdiv}
use Rattle.fixed_geom.specs.Facings.{IsFacing, turn}
use Rattle.fixed_geom.specs.Vectors.{IsWithin, unit_length}
use Rattle.fixed_geom.specs.declared.vectors.Vec2.{Vec2}
use Rattle.fixed_geom.specs.declared.limits.TheConstants.{MAX_POSITION, MAX_SPIN}
use Rattle.momenta.specs.declared.limits.TheConstants.{MAX_ANGULAR_MOMENTUM, MAX_INERTIA, MAX_MASS, MAX_MOMENTUM, MAX_SPEED}
use Rattle.momenta.specs.declared.mass.MassData.{MassData}
use Rattle.momenta.specs.declared.motion.Motion.{Motion}

-- ---- what bodies there are

-- a body that moves has a mass, and an inertia if it turns
pub record IsMass (m : MassData) : Type 0 where
  pub positive : pos 1 ≤ℤ m.mass
  pub mass : unsigned_abs m.mass ≤ unsigned_abs MAX_MASS
  pub nonnegative : pos 0 ≤ℤ m.inertia
  pub inertia : unsigned_abs m.inertia ≤ unsigned_abs MAX_INERTIA

-- a motion as it stands between the phases of a tick, of a body of this mass
pub record IsMotion (m : MassData) (s : Motion) : Type 0 where
  pub p : IsWithin (unsigned_abs MAX_MOMENTUM) s.p
  pub l : unsigned_abs s.l ≤ unsigned_abs MAX_ANGULAR_MOMENTUM
  pub still : m.inertia ≡ pos 0 → s.l ≡ pos 0
  pub x : IsWithin (unsigned_abs MAX_POSITION) s.x
  pub facing : IsFacing s.rot

-- a motion between gravity and the speed limit
pub record IsPulled (m : MassData) (s : Motion) : Type 0 where
  pub p : IsWithin (2 ^ 61) s.p
  pub l : unsigned_abs s.l ≤ unsigned_abs MAX_ANGULAR_MOMENTUM
  pub still : m.inertia ≡ pos 0 → s.l ≡ pos 0
  pub x : IsWithin (unsigned_abs MAX_POSITION) s.x
  pub facing : IsFacing s.rot

-- ---- velocity and spin

-- k with the sign of z
abbrev pub signed_as : ℤ → ℕ → ℤ
signed_as (pos n) k = pos k
signed_as (negsuc n) k = neg_ℤ (pos k)

-- z, or k with its sign where it is beyond k
abbrev pub limited : ℕ → ℤ → ℤ
limited k z = cond (nat_le (unsigned_abs z) k) z (signed_as z k)

-- u a tick
unfoldable pub velocity : ℤ → Vec2 → Vec2
velocity mass p = record { x = rdiv p.x mass; y = rdiv p.y mass }

-- the tangent of the turn of a tick, times 2^30: none at inertia 0, and at most a quarter
unfoldable pub spin : ℤ → ℤ → ℤ
spin (pos zero) l = pos 0
spin inertia l = limited (unsigned_abs MAX_SPIN) (rdiv (l *ℤ unit_length) inertia)

-- ---- gravity, for a tick: u a tick each tick

unfoldable pub pulled : Vec2 → MassData → Motion → Motion
pulled g m s = record s { p = record { x = s.p.x +ℤ m.mass *ℤ g.x; y = s.p.y +ℤ m.mass *ℤ g.y } }

-- ---- the speed limit, in each component

-- a component of the momentum
abbrev pub clamped_component : ℤ → ℤ → ℤ
clamped_component mass p = cond (nat_le (unsigned_abs (rdiv p mass)) (unsigned_abs MAX_SPEED)) p (mass *ℤ signed_as p (unsigned_abs MAX_SPEED))

unfoldable pub speed_clamped : MassData → Motion → Motion
speed_clamped m s = record s { p = record { x = clamped_component m.mass s.p.x; y = clamped_component m.mass s.p.y } }

-- ---- the move

-- where the velocity leads, were there no edge
unfoldable pub aim : MassData → Motion → Vec2
aim m s = record { x = s.x.x +ℤ (velocity m.mass s.p).x; y = s.x.y +ℤ (velocity m.mass s.p).y }

-- what is left of a component of the momentum that led to a coordinate: nothing where that is beyond the edge
abbrev pub kept_component : ℤ → ℤ → ℤ
kept_component to p = cond (nat_le (unsigned_abs to) (unsigned_abs MAX_POSITION)) p (pos 0)

-- the move of a tick: the centre by the velocity, up to the edge, and the facing by the spin
unfoldable pub advanced : MassData → Motion → Motion
advanced m s = record {
  p = record { x = kept_component (aim m s).x s.p.x; y = kept_component (aim m s).y s.p.y };
  l = s.l;
  x = record { x = limited (unsigned_abs MAX_POSITION) (aim m s).x; y = limited (unsigned_abs MAX_POSITION) (aim m s).y };
  rot = turn s.rot (spin m.inertia s.l);
}
