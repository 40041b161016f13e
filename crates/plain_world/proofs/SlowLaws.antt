-- Which quotients are slow, by products alone.
use Rattle.std.proofs.Common.{◌≡◌, ℕ, ◌+◌, ◌*◌, ◌^◌, ◌<◌, true, ℤ, pos, negsuc, ◌*ℤ◌, ◌≤ℤ◌, unsigned_abs, nat_le, ltb, inl, inr, refl, sym, ap, ◌∙◌, arith}
use Rattle.std.proofs.lemmas.Bool.{cases_lt, le-leb, le-ltb, lt-leb, lt-ltb}
use Rattle.std.proofs.lemmas.Int.{unsigned_abs-mul}
use Rattle.fixed_geom.specs.Numbers.{rdiv}
use Rattle.fixed_geom.proofs.QuotientLemmas.{abs_neg}
use Rattle.momenta.specs.Motions.{limited, signed_as, spin}
use Rattle.momenta.proofs.Rounding.{rdiv_fast, rdiv_slow}
use Rattle.momenta.proofs.Spins.{spin_fixed, spin_turning}

-- a quotient is at most k exactly where twice the number is below 2·k + 1 divisors
pub slow_test : (a b : ℤ) (k n d : ℕ) → pos 1 ≤ℤ b → n ≡ 2 * unsigned_abs a → d ≡ (2 * k + 1) * unsigned_abs b → ltb n d ≡ nat_le (unsigned_abs (rdiv a b)) k
slow_test a b k n d p e f = elim (cases_lt n d) [
  | inl below ↦ rw (lt-ltb n d below, le-leb (unsigned_abs (rdiv a b)) k (rdiv_slow a b k p (omega arith))) refl
  | inr above ↦ rw (le-ltb n d above, lt-leb (unsigned_abs (rdiv a b)) k (rdiv_fast a b k p (omega arith))) refl
]

signed_size : (z : ℤ) (k : ℕ) → unsigned_abs (signed_as z k) ≡ k
signed_size (pos n) k = refl
signed_size (negsuc n) k = abs_neg k

-- what is limited further out is as slow as before
slow_limited : (j k : ℕ) (z : ℤ) → k < j → nat_le (unsigned_abs (limited j z)) k ≡ nat_le (unsigned_abs z) k
slow_limited j k z h = elim (cases_lt j (unsigned_abs z)) [
  | inl beyond ↦ rw (lt-leb (unsigned_abs z) j beyond, signed_size z j, lt-leb j k h, lt-leb (unsigned_abs z) k (omega arith)) refl
  | inr within ↦ rw (le-leb (unsigned_abs z) j within) refl
]

-- the spin of a body that turns
pub slow_turn : (inertia l : ℤ) (k n d : ℕ) → pos 1 ≤ℤ inertia → k < 2 ^ 28 → n ≡ 2 ^ 31 * unsigned_abs l → d ≡ (2 * k + 1) * unsigned_abs inertia → ltb n d ≡ nat_le (unsigned_abs (spin inertia l)) k
slow_turn inertia l k n d p small e f =
    let size : unsigned_abs (l *ℤ pos (2 ^ 30)) ≡ unsigned_abs l * 2 ^ 30 = unsigned_abs-mul l (pos (2 ^ 30)) in
    slow_test (l *ℤ pos (2 ^ 30)) inertia k n d p (omega (arith, size)) f
    ∙ sym (slow_limited (2 ^ 28) k (rdiv (l *ℤ pos (2 ^ 30)) inertia) small)
    ∙ ap (λ s. nat_le (unsigned_abs s) k) (sym (spin_turning inertia l p))

-- a body of inertia 0 has no spin
pub slow_fixed : (inertia l : ℤ) (k : ℕ) → inertia ≡ pos 0 → true ≡ nat_le (unsigned_abs (spin inertia l)) k
slow_fixed inertia l k none = sym (ap (λ z. nat_le (unsigned_abs z) k) (ap (λ i. spin i l) none ∙ spin_fixed l) ∙ le-leb 0 k (omega arith))
