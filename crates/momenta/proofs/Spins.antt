-- The spin: of a body that turns, and of one that does not.
use Rattle.std.proofs.Common.{◌≡◌, ℕ, zero, suc, ◌*◌, ◌^◌, ◌<◌, ◌≤◌, ℤ, pos, negsuc, neg_ℤ, ◌*ℤ◌, ◌≤ℤ◌, ◌<ℤ◌, unsigned_abs, arith, refl, sym, ◌∙◌}
use Rattle.std.proofs.lemmas.Bool.{lt-leb}
use Rattle.std.proofs.lemmas.Int.{ints, fits_signed_from_abs, unsigned_abs-mul}
use Rattle.std.specs.Int.{w64, w128}
use mir.Val.{SFits}
use Rattle.fixed_geom.specs.Numbers.{nearest, rdiv}
use Rattle.fixed_geom.proofs.QuotientLemmas.{abs_neg}
use Rattle.momenta.specs.Motions.{limited, signed_as, spin}
use Rattle.momenta.proofs.Rounding.{rdiv_fast, rdiv_slow}

pub spin_turning : (inertia l : ℤ) → pos 1 ≤ℤ inertia → spin inertia l ≡ limited (2 ^ 28) (rdiv (l *ℤ pos (2 ^ 30)) inertia)
unfolding spin
spin_turning (pos zero) l h = absurd (omega (arith, ints))
spin_turning (pos (suc n)) l h = refl
spin_turning (negsuc n) l h = refl

pub spin_fixed : (l : ℤ) → spin (pos 0) l ≡ pos 0
unfolding spin
spin_fixed l = refl

pub rdiv_none : (b : ℤ) → pos 1 ≤ℤ b → rdiv (pos 0) b ≡ pos 0
rdiv_none b h =
    let none : unsigned_abs (rdiv (pos 0) b) ≤ 0 = rdiv_slow (pos 0) b 0 h (omega (arith, ints)) in
    omega (arith, ints)

pub spin_still : (inertia : ℤ) → pos 0 ≤ℤ inertia → spin inertia (pos 0) ≡ pos 0
unfolding spin
spin_still (pos zero) h = refl
spin_still (pos (suc n)) h = rw (rdiv_none (pos (suc n)) (omega (arith, ints))) refl
spin_still (negsuc n) h = absurd (omega (arith, ints))

-- a number that is small enough is passed as it is
pub fits_64 : (x : ℤ) → unsigned_abs x < 2 ^ 63 → SFits w64 x
fits_64 x h = fits_signed_from_abs w64 x h

pub fits_128 : (x : ℤ) → unsigned_abs x < 2 ^ 127 → SFits w128 x
fits_128 x h = fits_signed_from_abs w128 x h

-- ---- an angular momentum greater than the inertia

beyond : (k : ℕ) (z : ℤ) → k < unsigned_abs z → limited k z ≡ signed_as z k
beyond k z h = rw (lt-leb (unsigned_abs z) k h) refl

turn_size : (inertia l : ℤ) → pos 1 ≤ℤ inertia → unsigned_abs inertia < unsigned_abs l → 2 ^ 28 < unsigned_abs (rdiv (l *ℤ pos (2 ^ 30)) inertia)
turn_size inertia l h k =
    let size : unsigned_abs (l *ℤ pos (2 ^ 30)) ≡ unsigned_abs l * 2 ^ 30 = unsigned_abs-mul l (pos (2 ^ 30)) in
    rdiv_fast (l *ℤ pos (2 ^ 30)) inertia (2 ^ 28) h (omega (arith, size))

opposite_sign : (q k : ℕ) → 0 < q → signed_as (neg_ℤ (pos q)) k ≡ neg_ℤ (pos k)
opposite_sign zero k h = absurd (omega arith)
opposite_sign (suc q) k h = refl

sign_up : (a b : ℤ) (k : ℕ) → pos 0 ≤ℤ a → signed_as (rdiv a b) k ≡ pos k
unfolding rdiv
sign_up (pos n) b k h = refl
sign_up (negsuc n) b k h = absurd (omega (arith, ints))

sign_down : (a b : ℤ) (k : ℕ) → a <ℤ pos 0 → 0 < unsigned_abs (rdiv a b) → signed_as (rdiv a b) k ≡ neg_ℤ (pos k)
unfolding rdiv
sign_down (pos n) b k h some = absurd (omega (arith, ints))
sign_down (negsuc n) b k h some = opposite_sign (nearest (suc n) (unsigned_abs b)) k (rw (abs_neg (nearest (suc n) (unsigned_abs b))) at some)

pub greatest_up : (inertia l : ℤ) → pos 1 ≤ℤ inertia → unsigned_abs inertia < unsigned_abs l → pos 0 ≤ℤ l → pos (2 ^ 28) ≡ spin inertia l
greatest_up inertia l h k s =
    let size : 2 ^ 28 < unsigned_abs (rdiv (l *ℤ pos (2 ^ 30)) inertia) = turn_size inertia l h k in
    sym (spin_turning inertia l h ∙ beyond (2 ^ 28) (rdiv (l *ℤ pos (2 ^ 30)) inertia) size ∙ sign_up (l *ℤ pos (2 ^ 30)) inertia (2 ^ 28) (omega (arith, ints)))

pub greatest_down : (inertia l : ℤ) → pos 1 ≤ℤ inertia → unsigned_abs inertia < unsigned_abs l → l <ℤ pos 0 → neg_ℤ (pos (2 ^ 28)) ≡ spin inertia l
greatest_down inertia l h k s =
    let size : 2 ^ 28 < unsigned_abs (rdiv (l *ℤ pos (2 ^ 30)) inertia) = turn_size inertia l h k in
    sym (spin_turning inertia l h ∙ beyond (2 ^ 28) (rdiv (l *ℤ pos (2 ^ 30)) inertia) size ∙ sign_down (l *ℤ pos (2 ^ 30)) inertia (2 ^ 28) (omega (arith, ints)) (omega arith))
