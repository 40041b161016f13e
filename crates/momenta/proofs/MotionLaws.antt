-- Laws of the phases of a tick: what the speed limit leaves alone, and what each phase keeps.
use Rattle.std.proofs.Common.{◌≡◌, ◌*◌, ◌^◌, ◌≤◌, ℕ, suc, ℤ, pos, negsuc, ◌*ℤ◌, ◌≤ℤ◌, unsigned_abs, arith, inl, inr, refl, ap, ◌∙◌}
use Rattle.std.proofs.lemmas.Bool.{cases_lt, le-leb, lt-leb}
use Rattle.std.proofs.lemmas.Int.{ints, unsigned_abs-mul}
use Rattle.std.specs.Int.{w64}
use mir.Val.{SFits}
use Rattle.fixed_geom.specs.Numbers.{rdiv}
use Rattle.fixed_geom.specs.Vectors.{IsWithin}
use Rattle.fixed_geom.specs.declared.vectors.Vec2.{Vec2}
use Rattle.fixed_geom.specs.declared.facings.Rot.{Rot}
use Rattle.fixed_geom.specs.Facings.{turn}
use Rattle.momenta.specs.declared.mass.MassData.{MassData}
use Rattle.momenta.specs.declared.motion.Motion.{Motion}
use Rattle.momenta.specs.Motions.{advanced, aim, speed_clamped, clamped_component, pulled, signed_as, spin, velocity}
use Rattle.fixed_geom.proofs.Sizes.{product_le}
use Rattle.momenta.proofs.Rounding.{rdiv_at, rdiv_slow}
use Rattle.momenta.proofs.Spins.{fits_64}

-- ---- the speed limit

signed_size : (z : ℤ) (k : ℕ) → unsigned_abs (signed_as z (suc k)) ≡ suc k
signed_size (pos n) k = refl
signed_size (negsuc n) k = refl

limit_size : (mass p : ℤ) (k : ℕ) → unsigned_abs (mass *ℤ signed_as p (suc k)) ≡ unsigned_abs mass * suc k
limit_size mass p k = unsigned_abs-mul mass (signed_as p (suc k)) ∙ ap (λ n. unsigned_abs mass * n) (signed_size p k)

part_slow : (mass p : ℤ) → pos 1 ≤ℤ mass → unsigned_abs (rdiv (clamped_component mass p) mass) ≤ 2 ^ 20
part_slow mass p h =
    elim (cases_lt (2 ^ 20) (unsigned_abs (rdiv p mass))) [
      | inl fast ↦ rw (lt-leb (unsigned_abs (rdiv p mass)) (2 ^ 20) fast) (rdiv_at (mass *ℤ signed_as p (2 ^ 20)) mass (2 ^ 20) h (limit_size mass p 1048575))
      | inr slow ↦ rw (le-leb (unsigned_abs (rdiv p mass)) (2 ^ 20) slow) slow
    ]

-- the velocity that the limit leaves is within it
pub clamped_is_slow : (m : MassData) (s : Motion) → pos 1 ≤ℤ m.mass → IsWithin (2 ^ 20) (velocity m.mass (speed_clamped m s).p)
unfolding speed_clamped velocity
clamped_is_slow m s h = record { x = part_slow m.mass s.p.x h; y = part_slow m.mass s.p.y h }

-- a velocity within the limit is left as it is
pub clamped_slow : (m : MassData) (s : Motion) → IsWithin (2 ^ 20) (velocity m.mass s.p) → speed_clamped m s ≡ s
unfolding speed_clamped velocity
clamped_slow m s h = rw (le-leb (unsigned_abs (rdiv s.p.x m.mass)) (2 ^ 20) h.x, le-leb (unsigned_abs (rdiv s.p.y m.mass)) (2 ^ 20) h.y) refl

pub clamped_twice : (m : MassData) (s : Motion) → pos 1 ≤ℤ m.mass → speed_clamped m (speed_clamped m s) ≡ speed_clamped m s
clamped_twice m s h = clamped_slow m (speed_clamped m s) (clamped_is_slow m s h)

-- the mass times the limit has room
pub limit_fits : (mass : ℤ) → unsigned_abs mass ≤ 2 ^ 20 → SFits w64 (mass *ℤ pos (2 ^ 20))
limit_fits mass h = fits_64 (mass *ℤ pos (2 ^ 20)) (omega (arith, product_le mass (pos (2 ^ 20)) (2 ^ 20) (2 ^ 20) h (omega arith)))

-- a momentum up to it is slow, and small
pub below_is_slow : (p mass : ℤ) → pos 1 ≤ℤ mass → unsigned_abs p ≤ unsigned_abs (mass *ℤ pos (2 ^ 20)) → unsigned_abs (rdiv p mass) ≤ 2 ^ 20
below_is_slow p mass h below =
    let size : unsigned_abs (mass *ℤ pos (2 ^ 20)) ≡ unsigned_abs mass * 2 ^ 20 = unsigned_abs-mul mass (pos (2 ^ 20)) in
    let some : 1 ≤ unsigned_abs mass = omega (arith, ints) in
    rdiv_slow p mass (2 ^ 20) h (omega (arith, size, some, below))

pub below_is_small : (p mass : ℤ) → unsigned_abs mass ≤ 2 ^ 20 → unsigned_abs p ≤ unsigned_abs (mass *ℤ pos (2 ^ 20)) → unsigned_abs p ≤ 2 ^ 40
below_is_small p mass h below = omega (arith, below, product_le mass (pos (2 ^ 20)) (2 ^ 20) (2 ^ 20) h (omega arith))

-- ---- what is kept: gravity and the limit change the momentum alone, the move leaves the angular momentum

pub pulled_keeps : (g : Vec2) (m : MassData) (s : Motion) → pulled g m s ≡ record s { p = (pulled g m s).p }
unfolding pulled
pulled_keeps g m s = refl

pub clamped_keeps : (m : MassData) (s : Motion) → speed_clamped m s ≡ record s { p = (speed_clamped m s).p }
unfolding speed_clamped
clamped_keeps m s = refl

pub advanced_keeps : (m : MassData) (s : Motion) → (advanced m s).l ≡ s.l
unfolding advanced
advanced_keeps m s = refl

-- ---- the move, inside the edge

-- where the velocity leads inside the edge, it is the place that the body comes to, and no momentum is lost
pub advanced_inside : (m : MassData) (s : Motion) (x : Vec2) (w : ℤ) (rot : Rot) → x ≡ aim m s → IsWithin (2 ^ 36) x → w ≡ spin m.inertia s.l → rot ≡ turn s.rot w → record s { x = x; rot = rot } ≡ advanced m s
unfolding advanced
advanced_inside m s x w rot e h f g = rw (← e, g, f, le-leb (unsigned_abs x.x) (2 ^ 36) h.x, le-leb (unsigned_abs x.y) (2 ^ 36) h.y) refl
