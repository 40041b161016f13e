-- A body that is carried along: of mass 1, so that its momentum is its velocity.
use Rattle.std.proofs.Common.{ℕ, ◌≤◌, Bool, true, false, cond, nat_le, ℤ, pos, unsigned_abs, arith}
use Rattle.fixed_geom.specs.Vectors.{IsWithin}
use Rattle.fixed_geom.specs.declared.limits.TheConstants.{MAX_POSITION}
use Rattle.fixed_geom.specs.declared.vectors.Vec2.{Vec2}
use Rattle.fixed_geom.proofs.QuotientLemmas.{rdiv_le}
use Rattle.momenta.specs.declared.mass.MassData.{MassData}
use Rattle.momenta.specs.declared.motion.Motion.{Motion}
use Rattle.momenta.specs.Motions.{advanced, aim, kept_component, velocity}

or_none : (t : Bool) (p : ℤ) (n : ℕ) → unsigned_abs p ≤ n → unsigned_abs (cond t p (pos 0)) ≤ n
or_none true p n h = h
or_none false p n h = omega arith

kept_within : (to p : ℤ) (n : ℕ) → unsigned_abs p ≤ n → unsigned_abs (kept_component to p) ≤ n
kept_within to p n h = or_none (nat_le (unsigned_abs to) (unsigned_abs MAX_POSITION)) p n h

-- the move keeps the momentum within any bound
pub advanced_within : (n : ℕ) (m : MassData) (s : Motion) → IsWithin n s.p → IsWithin n (advanced m s).p
unfolding advanced
advanced_within n m s h = record { x = kept_within (aim m s).x s.p.x n h.x; y = kept_within (aim m s).y s.p.y n h.y }

-- of mass 1 the velocity is within the bound of the momentum
pub velocity_within : (n : ℕ) (p : Vec2) → IsWithin n p → IsWithin n (velocity (pos 1) p)
unfolding velocity
velocity_within n p h =
    let x = h.x in
    let y = h.y in
    record { x = rdiv_le p.x (pos 1) n (omega arith) (omega (arith, x)); y = rdiv_le p.y (pos 1) n (omega arith) (omega (arith, y)) }
