-- Trusted: what must hold of a body and of a line for an impulse, and what the impulse leaves as it was.
use Rattle.std.specs.Prelude.{◌≡◌, ◌≤◌, ◌^◌, true, false, ℤ, ◌+ℤ◌, ◌≤ℤ◌, unsigned_abs}
use Rattle.fixed_geom.specs.Reciprocals.{over_inverse_reciprocal}
use Rattle.fixed_geom.specs.Vectors.{IsWithin}
use Rattle.fixed_geom.specs.declared.vectors.TheConstants.{UNIT}
use Rattle.fixed_geom.specs.declared.limits.TheConstants.{MAX_OFFSET, MAX_POSITION}
use Rattle.momenta.specs.declared.limits.TheConstants.{MAX_INVERSE_MASS, MIN_INVERSE_MASS}
use Rattle.momenta.specs.declared.motion.Motion.{Motion}
use Rattle.momenta.specs.declared.state.BodyState.{BodyState}
use Rattle.momenta.specs.declared.state.Ends.{Ends}
use Rattle.momenta.specs.declared.line.Line.{Line}
use Rattle.momenta.specs.Motions.{IsMass, IsMotion}
use Rattle.momenta.specs.Reciprocals.{reciprocals_of}

-- ---- what must hold of a body and of a line

-- what is kept of it: its mass is one, its numbers are within their limits, and the reciprocals are those of the mass.
-- Of a body that no impulse moves, mass and momenta only say how it is carried along: with which velocity and spin.
pub record IsState (s : BodyState) : Type 0 where
  pub mass : IsMass s.mass
  pub reciprocals : s.reciprocals ≡ reciprocals_of s.mass
  pub motion : IsMotion s.mass s.motion
  pub start : IsWithin (unsigned_abs MAX_POSITION) s.start

pub record AreStates (e : Ends) : Type 0 where
  pub a : IsState e.a
  pub b : IsState e.b

-- the momenta are so far within their limits that two impulses can't take them out
pub record IsRoomy (m : Motion) : Type 0 where
  pub p : IsWithin (2 ^ 59) m.p
  pub l : unsigned_abs m.l ≤ 2 ^ 89

pub record IsLine (line : Line) : Type 0 where
  pub direction : IsWithin (unsigned_abs UNIT) line.direction
  pub ra : IsWithin (unsigned_abs MAX_OFFSET) line.ra
  pub rb : IsWithin (unsigned_abs MAX_OFFSET) line.rb
  pub inverse_low : MIN_INVERSE_MASS ≤ℤ line.inverse_mass
  pub inverse_high : unsigned_abs line.inverse_mass ≤ unsigned_abs MAX_INVERSE_MASS
  pub reciprocal : line.reciprocal ≡ over_inverse_reciprocal line.inverse_mass

-- ---- what an impulse leaves as it was

-- what an impulse leaves alone of a body: all but its momenta, and all of one that doesn't move
pub record IsSameBody (before after : BodyState) : Type 0 where
  pub movable : after.movable ≡ before.movable
  pub mass : after.mass ≡ before.mass
  pub start : after.start ≡ before.start
  pub reciprocals : after.reciprocals ≡ before.reciprocals
  pub position : after.motion.x ≡ before.motion.x
  pub facing : after.motion.rot ≡ before.motion.rot
  pub immovable : before.movable ≡ false → after ≡ before

pub record AreSameBodies (before after : Ends) : Type 0 where
  pub a : IsSameBody before.a after.a
  pub b : IsSameBody before.b after.b

-- the momenta of two movers have the same sum
pub record IsMomentumKept (before after : Ends) : Type 0 where
  pub x : before.a.movable ≡ true → before.b.movable ≡ true → after.a.motion.p.x +ℤ after.b.motion.p.x ≡ before.a.motion.p.x +ℤ before.b.motion.p.x
  pub y : before.a.movable ≡ true → before.b.movable ≡ true → after.a.motion.p.y +ℤ after.b.motion.p.y ≡ before.a.motion.p.y +ℤ before.b.motion.p.y
