-- What stays of an accumulated impulse that is at its least already.
use Rattle.std.proofs.Common.{◌≡◌, ℕ, zero, suc, ℤ, pos, negsuc, neg_ℤ, ◌+ℤ◌, ◌≤ℤ◌, unsigned_abs, arith}
use Rattle.std.proofs.lemmas.Int.{ints}
use Rattle.fixed_geom.specs.Numbers.{rdiv, nearest}
use Rattle.momenta.specs.Impulses.{between, wanted}
use Rattle.momenta.proofs.Spins.{rdiv_none}

below_zero : (k : ℕ) → neg_ℤ (pos k) ≤ℤ pos 0
below_zero zero = omega (arith, ints)
below_zero (suc k) = omega (arith, ints)

rdiv_nonpositive : (a b : ℤ) → a ≤ℤ pos 0 → pos 1 ≤ℤ b → rdiv a b ≤ℤ pos 0
unfolding rdiv
rdiv_nonpositive (pos zero) b h k = rw (rdiv_none b k) (omega (arith, ints))
rdiv_nonpositive (pos (suc n)) b h k = absurd (omega (arith, ints))
rdiv_nonpositive (negsuc n) b h k = below_zero (nearest (suc n) (unsigned_abs b))

pub none_wanted : (speed bias inverse : ℤ) → bias ≤ℤ speed → pos 1 ≤ℤ inverse → wanted speed bias inverse ≤ℤ pos 0
unfolding wanted
none_wanted speed bias inverse h k = rdiv_nonpositive _ inverse (omega (arith, ints)) k

at_low : (low high z : ℤ) → low ≤ℤ high → z ≤ℤ low → low ≡ between low high z
at_low low high z h k = grind (arith, ints)

pub kept_at_low : (low high total w : ℤ) → low ≤ℤ high → total ≡ low → w ≤ℤ pos 0 → low ≡ between low high (total +ℤ w)
kept_at_low low high total w h same k = at_low low high (total +ℤ w) h (omega (arith, ints))
