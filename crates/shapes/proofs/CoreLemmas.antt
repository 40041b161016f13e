-- Shares of a core.
use Rattle.std.proofs.Common.{◌≡◌, ℕ, zero, suc, ◌+◌, ◌*◌, ◌^◌, ◌<◌, ◌≤◌, ℤ, pos, negsuc, ◌*ℤ◌, ◌<ℤ◌, ◌≤ℤ◌, unsigned_abs, arith}
use Rattle.std.proofs.lemmas.Int.{ints}
use Rattle.std.proofs.Math.Nat.{le-div_iff_mul-le}
use Rattle.std.proofs.lemmas.Bool.Decides.{nat_tests}
use Rattle.fixed_geom.specs.Numbers.{rdiv, nearest}
use Rattle.fixed_geom.specs.Vectors.{unit_length}
use Rattle.fixed_geom.proofs.QuotientLemmas.{nearest_le}
use Rattle.shapes.specs.Cores.{part_clamped}

clamped_low : (q : ℤ) → q ≤ℤ pos 0 → part_clamped q ≡ pos 0
unfolding part_clamped
clamped_low q h = grind (arith, ints, nat_tests)

clamped_high : (q : ℤ) → unit_length ≤ℤ q → part_clamped q ≡ unit_length
unfolding part_clamped
clamped_high q h = grind (arith, ints, nat_tests)

pub clamped_inside : (q : ℤ) → pos 0 ≤ℤ q → unsigned_abs q ≤ 2 ^ 30 → part_clamped q ≡ q
unfolding part_clamped
clamped_inside q h l = grind (arith, ints, nat_tests)

pub rdiv_low : (a b : ℤ) → a ≤ℤ pos 0 → pos 0 <ℤ b → rdiv a b ≤ℤ pos 0
unfolding rdiv
rdiv_low (pos zero) b h p = let none : nearest 0 (unsigned_abs b) ≤ 0 = nearest_le 0 (unsigned_abs b) 0 (omega (arith, ints)) (omega arith) in omega (arith, ints, none)
rdiv_low (pos (suc n)) b h p = absurd (omega (arith, ints))
rdiv_low (negsuc n) b h p = omega (arith, ints)

pub rdiv_nonnegative : (a b : ℤ) → pos 0 ≤ℤ a → pos 0 ≤ℤ rdiv a b
unfolding rdiv
rdiv_nonnegative (pos n) b h = omega (arith, ints)
rdiv_nonnegative (negsuc n) b h = absurd (omega (arith, ints))

le_nearest : (n d k : ℕ) → 0 < d → k * d ≤ n → k ≤ nearest n d
le_nearest n d k p h = let enough : k * (2 * d) ≤ 2 * n + d = omega arith in (le-div_iff_mul-le {k = 2 * d} {x = k} {y = 2 * n + d} (omega arith)).1 enough

rdiv_high : (a b : ℤ) (k : ℕ) → pos 0 ≤ℤ a → pos 0 <ℤ b → k * unsigned_abs b ≤ unsigned_abs a → pos k ≤ℤ rdiv a b
unfolding rdiv
rdiv_high (pos n) b k h p l = let some : k ≤ nearest n (unsigned_abs b) = le_nearest n (unsigned_abs b) k (omega (arith, ints)) l in omega (arith, ints, some)
rdiv_high (negsuc n) b k h p l = absurd (omega (arith, ints))

pub share_low : (part whole : ℤ) → part ≤ℤ pos 0 → pos 0 <ℤ whole → part_clamped (rdiv (part *ℤ unit_length) whole) ≡ pos 0
share_low part whole h p = clamped_low _ (rdiv_low _ whole (omega (arith, ints)) p)

pub share_high : (part whole : ℤ) → whole ≤ℤ part → pos 0 <ℤ whole → part_clamped (rdiv (part *ℤ unit_length) whole) ≡ unit_length
share_high part whole h p = clamped_high _ (rdiv_high (part *ℤ unit_length) whole (2 ^ 30) (omega (arith, ints)) p (omega (arith, ints)))
