-- The momenta of bodies in 64 bits.
use Rattle.std.specs.Prelude.{ℕ, ◌<◌, ◌≤◌, ◌+◌, ◌*◌, ◌^◌, ℤ, pos, ◌+ℤ◌, ◌-ℤ◌, ◌<ℤ◌, unsigned_abs}
use Rattle.fixed_geom.specs.Vectors.{IsWithin}
use Rattle.momenta.specs.declared.state.BodyState.{BodyState}
use Rattle.momenta.specs.declared.state.Ends.{Ends}
use Rattle.momenta.specs.declared.line_64.Momenta64.{Momenta64}
use Rattle.momenta.specs.declared.line_64.MomentaPair64.{MomentaPair64}
use Rattle.momenta.specs.declared.motion.Motion.{Motion}
use Rattle.momenta.specs.declared.line.Line.{Line}
use Rattle.momenta.specs.Impulses.{between, parting, speed_along, wanted}
use Rattle.momenta.specs.ImpulseBounds.{AreStates, AreSameBodies, IsMomentumKept}

-- the body with these momenta in place of its own
abbrev pub with_momenta : BodyState → Momenta64 → BodyState
with_momenta s n = record s { motion = record s.motion { p = n.p; l = n.l } }

abbrev pub both_ends : BodyState → BodyState → Ends
both_ends a b = record { a = a; b = b }

-- the two bodies with these momenta
abbrev pub ends_with : BodyState → BodyState → MomentaPair64 → Ends
ends_with a b n = record { a = with_momenta a n.a; b = with_momenta b n.b }

-- momenta that leave room in 64 bits, k small impulses having been given since that was found
pub record LeavesRoom64 (k : ℕ) (n : Momenta64) : Type 0 where
  pub p : IsWithin (2 ^ 40 + k * 2 ^ 30) n.p
  pub l : unsigned_abs n.l ≤ 2 ^ 60 + k * 2 ^ 58

pub record LeaveRoom64 (k : ℕ) (n : MomentaPair64) : Type 0 where
  pub a : LeavesRoom64 k n.a
  pub b : LeavesRoom64 k n.b

-- momenta so small that there is room for them in 64 bits
pub record FitsIn64 (m : Motion) : Type 0 where
  pub x : unsigned_abs m.p.x < 2 ^ 40
  pub y : unsigned_abs m.p.y < 2 ^ 40
  pub l : unsigned_abs m.l < 2 ^ 60

-- a solver's impulse along the line for which there is room in 64 bits
pub record HasRoom64 (line : Line) (bias low high total : ℤ) (e : Ends) : Type 0 where
  pub x : unsigned_abs (parting line.ra line.rb e).x < 2 ^ 31
  pub y : unsigned_abs (parting line.ra line.rb e).y < 2 ^ 31
  pub speed : unsigned_abs (speed_along line e) < 2 ^ 20
  pub towards : unsigned_abs bias < 2 ^ 20
  pub inverse : line.inverse_mass <ℤ pos (2 ^ 62)
  pub change : unsigned_abs (between low high (total +ℤ wanted (speed_along line e) bias line.inverse_mass) -ℤ total) < 2 ^ 30

-- the two bodies with the momenta n have been left so by an impulse, which they had with `old` before it
pub record IsImpulse (a b : BodyState) (old n : MomentaPair64) : Type 0 where
  pub states : AreStates (ends_with a b n)
  pub same : AreSameBodies (ends_with a b old) (ends_with a b n)
  pub kept : IsMomentumKept (ends_with a b old) (ends_with a b n)
  pub leaves_room : (k : ℕ) → LeaveRoom64 k old → LeaveRoom64 (k + 1) n
