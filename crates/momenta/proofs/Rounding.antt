-- Sizes of rounded quotients.
use Rattle.std.proofs.Common.{◌≡◌, ℕ, suc, ◌+◌, ◌*◌, ◌<◌, ◌≤◌, ℤ, pos, negsuc, ◌≤ℤ◌, unsigned_abs, arith, refl}
use Rattle.std.proofs.lemmas.Int.{ints}
use Rattle.std.proofs.lemmas.Nat.{div_below, le-div}
use Rattle.fixed_geom.specs.Numbers.{nearest, rdiv}
use Rattle.fixed_geom.proofs.QuotientLemmas.{abs_neg}

rdiv_size : (a b : ℤ) → unsigned_abs (rdiv a b) ≡ nearest (unsigned_abs a) (unsigned_abs b)
unfolding rdiv
rdiv_size (pos n) b = refl
rdiv_size (negsuc n) b = abs_neg (nearest (suc n) (unsigned_abs b))

nearest_slow : (n d k : ℕ) → 0 < d → 2 * n < (2 * k + 1) * d → nearest n d ≤ k
nearest_slow n d k p h =
    let few : 2 * n + d < (k + 1) * (2 * d) = omega arith in
    let below : nearest n d < k + 1 = div_below (2 * n + d) (2 * d) (k + 1) (omega arith) few in
    omega arith

nearest_fast : (n d k : ℕ) → 0 < d → (2 * k + 1) * d ≤ 2 * n → k < nearest n d
nearest_fast n d k p h =
    let many : (k + 1) * (2 * d) ≤ 2 * n + d = omega arith in
    let above : k + 1 ≤ nearest n d = le-div (k + 1) (2 * n + d) (2 * d) (omega arith) many in
    omega arith

-- a quotient is at most k exactly where twice the number is below 2·k + 1 divisors
pub rdiv_slow : (a b : ℤ) (k : ℕ) → pos 1 ≤ℤ b → 2 * unsigned_abs a < (2 * k + 1) * unsigned_abs b → unsigned_abs (rdiv a b) ≤ k
rdiv_slow a b k p h = rw (rdiv_size a b) (nearest_slow (unsigned_abs a) (unsigned_abs b) k (omega (arith, ints)) h)

pub rdiv_fast : (a b : ℤ) (k : ℕ) → pos 1 ≤ℤ b → (2 * k + 1) * unsigned_abs b ≤ 2 * unsigned_abs a → k < unsigned_abs (rdiv a b)
rdiv_fast a b k p h = rw (rdiv_size a b) (nearest_fast (unsigned_abs a) (unsigned_abs b) k (omega (arith, ints)) h)

pub rdiv_at : (a b : ℤ) (k : ℕ) → pos 1 ≤ℤ b → unsigned_abs a ≡ unsigned_abs b * k → unsigned_abs (rdiv a b) ≤ k
rdiv_at a b k p h =
    let some : 0 < unsigned_abs b = omega (arith, ints) in
    rdiv_slow a b k p (omega arith)
