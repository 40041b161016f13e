-- The velocity of a body's point where the body doesn't spin.
use Rattle.std.proofs.Common.{◌≡◌, ℤ, pos, ◌-ℤ◌, ◌≤ℤ◌, ◌+◌, ◌^◌, arith, refl}
use Rattle.std.proofs.lemmas.Int.{ints}
use lib.IntN.{zero-*ℤ, +ℤ_idr}
use Rattle.fixed_geom.specs.Numbers.{rdiv}
use Rattle.fixed_geom.specs.Vectors.{IsWithin}
use Rattle.fixed_geom.specs.declared.vectors.Vec2.{Vec2}
use Rattle.momenta.specs.declared.state.BodyState.{BodyState}
use Rattle.momenta.specs.Motions.{velocity}
use Rattle.momenta.specs.Impulses.{carried, velocity_at}
use Rattle.momenta.proofs.Spins.{spin_still}

less_none : (a : ℤ) → a -ℤ pos 0 ≡ a
less_none a = omega (arith, ints)

carried_none : (r v : Vec2) → carried r v (pos 0) ≡ v
unfolding rdiv
carried_none r v = rw (zero-*ℤ r.y, zero-*ℤ r.x, less_none v.x, +ℤ_idr v.y) refl

pub standing_at : (r : Vec2) (s : BodyState) → s.motion.l ≡ pos 0 → pos 0 ≤ℤ s.mass.inertia → velocity_at r s ≡ velocity s.mass.mass s.motion.p
unfolding velocity_at
standing_at r s k n = rw (k, spin_still s.mass.inertia n) (carried_none r (velocity s.mass.mass s.motion.p))

pub within_more : (v : Vec2) → IsWithin (2 ^ 60) v → IsWithin (2 ^ 60 + 2 ^ 25) v
within_more v h = record { x = omega (arith, h.x); y = omega (arith, h.y) }
