-- Rounding by a shift that rounds down.
use Rattle.std.proofs.Common.{◌≡◌, ℕ, suc, ◌+◌, ◌*◌, ◌/◌, ◌<◌, ◌≤◌, ℤ, pos, negsuc, ◌+ℤ◌, ◌-ℤ◌, ◌*ℤ◌, ◌<ℤ◌, ◌≤ℤ◌, ◌^◌, unsigned_abs, refl, ap, ◌∙◌, arith, to_z, of_z, FitsSigned}
use Rattle.std.proofs.lemmas.Int.{ints, unsigned_abs-mul}
use Rattle.std.specs.Int.Signed.{shr_z}
use Rattle.fixed_geom.specs.Numbers.{nearest, rdiv, fdiv}
use Rattle.fixed_geom.specs.Vectors.{unit_length}
use Rattle.fixed_geom.proofs.Sizes.{passed_64, passed_128, fits_64, narrowed, sum_le}
use Rattle.fixed_geom.proofs.QuotientLemmas.{rdiv_le}
use Rattle.std.specs.Int.{w64, w128}

-- from zero on: a half is added
pub shifted_up : (x z : ℤ) → pos 0 ≤ℤ x → z ≡ x +ℤ pos 536870912 → shr_z z 1073741824 ≡ rdiv x unit_length
unfolding rdiv
shifted_up (pos n) (pos a) h is =
    let same : a / 1073741824 ≡ nearest n 1073741824 = omega (arith, ints, is) in
    ap pos same
shifted_up (pos n) (negsuc a) h is = absurd (omega (arith, ints, is))
shifted_up (negsuc n) z h is = absurd (omega (arith, ints, h))

-- below zero: just below a half
pub shifted_down : (x z : ℤ) → x <ℤ pos 0 → z ≡ x +ℤ pos 536870911 → shr_z z 1073741824 ≡ rdiv x unit_length
unfolding rdiv
shifted_down (negsuc n) (pos a) h is =
    let none : a / 1073741824 ≡ 0 = omega (arith, ints, is) in
    let near : nearest (suc n) 1073741824 ≡ 0 = omega (arith, ints, is) in
    rw (none, near) refl
shifted_down (negsuc n) (negsuc a) h is =
    let near : nearest (suc n) 1073741824 ≡ suc (a / 1073741824) = omega (arith, ints, is) in
    rw near refl
shifted_down (pos n) z h is = absurd (omega (arith, ints, h))

-- ---- the code's sums and shifts, of a number with room for the half

pub size : (x : ℤ) → unsigned_abs x ≤ 2 ^ 62 → unsigned_abs (rdiv x unit_length) ≤ 2 ^ 32
size x h = rdiv_le x unit_length (2 ^ 32) (omega (arith, ints)) (omega (arith, ints, h))

pub shift_down_64 : (x : ℤ) → x <ℤ pos 0 → unsigned_abs x ≤ 2 ^ 62 → to_z w64 (of_z w64 (shr_z (to_z w64 (of_z w64 (to_z w64 (of_z w64 x) +ℤ pos 536870911))) 1073741824)) ≡ rdiv x unit_length
shift_down_64 x negative h =
    let s : unsigned_abs (x +ℤ pos 536870911) ≤ 2 ^ 62 + 536870911 = sum_le x (pos 536870911) (2 ^ 62) 536870911 h (omega (arith, ints)) in
    rw (passed_64 x (omega (arith, h)), passed_64 (x +ℤ pos 536870911) (omega (arith, s)), shifted_down x (x +ℤ pos 536870911) negative refl) (passed_64 (rdiv x unit_length) (omega (arith, size x h)))

pub shift_up_64 : (x : ℤ) → pos 0 ≤ℤ x → unsigned_abs x ≤ 2 ^ 62 → to_z w64 (of_z w64 (shr_z (to_z w64 (of_z w64 (to_z w64 (of_z w64 x) +ℤ pos 536870912))) 1073741824)) ≡ rdiv x unit_length
shift_up_64 x nonnegative h =
    let s : unsigned_abs (x +ℤ pos 536870912) ≤ 2 ^ 62 + 536870912 = sum_le x (pos 536870912) (2 ^ 62) 536870912 h (omega (arith, ints)) in
    rw (passed_64 x (omega (arith, h)), passed_64 (x +ℤ pos 536870912) (omega (arith, s)), shifted_up x (x +ℤ pos 536870912) nonnegative refl) (passed_64 (rdiv x unit_length) (omega (arith, size x h)))

-- ---- the same in 128 bits, and then cast to 64

wide_size : (x : ℤ) → unsigned_abs x ≤ 2 ^ 92 → unsigned_abs (rdiv x unit_length) ≤ 2 ^ 62
wide_size x h = rdiv_le x unit_length (2 ^ 62) (omega (arith, ints)) (omega (arith, ints, h))

-- what `rdiv_unit` ensures, of a sum that is shifted
pub record IsUnitQuotient (x z : ℤ) : Type 0 where
  pub fits : FitsSigned w64 (to_z w128 (of_z w128 (shr_z (to_z w128 (of_z w128 z)) 1073741824)))
  pub value : to_z w64 (of_z w64 (to_z w128 (of_z w128 (shr_z (to_z w128 (of_z w128 z)) 1073741824)))) ≡ rdiv x unit_length

shifted_wide : (x z : ℤ) → unsigned_abs x ≤ 2 ^ 92 → unsigned_abs z ≤ 2 ^ 93 → shr_z z 1073741824 ≡ rdiv x unit_length → IsUnitQuotient x z
shifted_wide x z h l e =
    let small : unsigned_abs (rdiv x unit_length) < 2 ^ 63 = omega (arith, wide_size x h) in
    let passed : to_z w128 (of_z w128 z) ≡ z = passed_128 z (omega (arith, l)) in
    record { fits = rw (passed, e) (fits_64 (rdiv x unit_length) small); value = rw (passed, e) (narrowed (rdiv x unit_length) small) }

pub shift_down_128 : (x : ℤ) → x <ℤ pos 0 → unsigned_abs x ≤ 2 ^ 92 → IsUnitQuotient x (to_z w128 (of_z w128 x) +ℤ pos 536870911)
shift_down_128 x negative h =
    let s : unsigned_abs (x +ℤ pos 536870911) ≤ 2 ^ 92 + 536870911 = sum_le x (pos 536870911) (2 ^ 92) 536870911 h (omega (arith, ints)) in
    let is : to_z w128 (of_z w128 x) +ℤ pos 536870911 ≡ x +ℤ pos 536870911 = ap (λ v. v +ℤ pos 536870911) (passed_128 x (omega (arith, h))) in
    shifted_wide x (to_z w128 (of_z w128 x) +ℤ pos 536870911) h (rw is (omega (arith, s))) (shifted_down x _ negative is)

pub shift_up_128 : (x : ℤ) → pos 0 ≤ℤ x → unsigned_abs x ≤ 2 ^ 92 → IsUnitQuotient x (to_z w128 (of_z w128 x) +ℤ pos 536870912)
shift_up_128 x nonnegative h =
    let s : unsigned_abs (x +ℤ pos 536870912) ≤ 2 ^ 92 + 536870912 = sum_le x (pos 536870912) (2 ^ 92) 536870912 h (omega (arith, ints)) in
    let is : to_z w128 (of_z w128 x) +ℤ pos 536870912 ≡ x +ℤ pos 536870912 = ap (λ v. v +ℤ pos 536870912) (passed_128 x (omega (arith, h))) in
    shifted_wide x (to_z w128 (of_z w128 x) +ℤ pos 536870912) h (rw is (omega (arith, s))) (shifted_up x _ nonnegative is)

-- ---- a number of 128 bits as its halves

pub shift_is : (z : ℤ) (m : ℕ) → shr_z z m ≡ fdiv z (pos m)
unfolding fdiv
shift_is (pos z) m = refl
shift_is (negsuc z) m = refl

pub half_size : (z : ℤ) → unsigned_abs z ≤ 2 ^ 126 → unsigned_abs (shr_z z (2 ^ 64)) < 2 ^ 63
half_size (pos z) h = omega (arith, h)
half_size (negsuc z) h = omega (arith, h)

pub upper_is : (z : ℤ) → unsigned_abs z ≤ 2 ^ 126 → to_z w64 (of_z w64 (to_z w128 (of_z w128 (shr_z z (2 ^ 64))))) ≡ fdiv z (pos (2 ^ 64))
upper_is z h = narrowed (shr_z z (2 ^ 64)) (half_size z h) ∙ shift_is z (2 ^ 64)

record IsAbove (z q : ℤ) : Type 0 where
  low : (q *ℤ pos (2 ^ 64)) ≤ℤ z
  high : z <ℤ (q *ℤ pos (2 ^ 64) +ℤ pos (2 ^ 64))

above_half : (z : ℤ) → IsAbove z (shr_z z (2 ^ 64))
above_half (pos z) = record { low = omega (arith, ints); high = omega (arith, ints) }
above_half (negsuc z) = record { low = omega (arith, ints); high = omega (arith, ints) }

natural : (v : ℤ) → pos 0 ≤ℤ v → pos (unsigned_abs v) ≡ v
natural (pos v) h = refl
natural (negsuc v) h = absurd (omega (arith, ints, h))

lower_of : (z q : ℤ) → IsAbove z q → unsigned_abs q < 2 ^ 63
    → pos (unsigned_abs (to_z w128 (of_z w128 (z -ℤ to_z w128 (of_z w128 (to_z w128 (of_z w128 q) *ℤ pos (2 ^ 64))))))) ≡ z -ℤ q *ℤ pos (2 ^ 64)
lower_of z q h small =
    let size : unsigned_abs (q *ℤ pos (2 ^ 64)) ≡ unsigned_abs q * 2 ^ 64 = unsigned_abs-mul q (pos (2 ^ 64)) in
    rw (passed_128 q (omega (arith, small)), passed_128 (q *ℤ pos (2 ^ 64)) (omega (arith, size, small)), passed_128 (z -ℤ q *ℤ pos (2 ^ 64)) (omega (arith, ints, h.low, h.high))) (natural (z -ℤ q *ℤ pos (2 ^ 64)) (omega (arith, ints, h.low)))

pub lower_is : (z : ℤ) → unsigned_abs z ≤ 2 ^ 126
    → pos (unsigned_abs (to_z w128 (of_z w128 (z -ℤ to_z w128 (of_z w128 (to_z w128 (of_z w128 (shr_z z (2 ^ 64))) *ℤ pos (2 ^ 64))))))) ≡ z -ℤ fdiv z (pos (2 ^ 64)) *ℤ pos (2 ^ 64)
lower_is z h = rw (← shift_is z (2 ^ 64)) (lower_of z (shr_z z (2 ^ 64)) (above_half z) (half_size z h))

-- ---- rounding by the upper half, which is the sign

sign_small : (x u : ℤ) → unsigned_abs x ≤ 2 ^ 62 → u ≡ fdiv x (pos (2 ^ 64)) → unsigned_abs u ≤ 1
unfolding fdiv
sign_small (pos n) u h e = omega (arith, ints, h, e)
sign_small (negsuc n) u h e = omega (arith, ints, h, e)

shifted_by_sign : (x u z : ℤ) → unsigned_abs x ≤ 2 ^ 62 → u ≡ fdiv x (pos (2 ^ 64)) → z ≡ x +ℤ u +ℤ pos 536870912 → shr_z z 1073741824 ≡ rdiv x unit_length
unfolding fdiv
shifted_by_sign (pos n) u z h e is = shifted_up (pos n) z (omega (arith, ints)) (omega (arith, ints, h, e, is))
shifted_by_sign (negsuc n) u z h e is = shifted_down (negsuc n) z (omega (arith, ints)) (omega (arith, ints, h, e, is))

pub shift_by_sign : (x u : ℤ) → unsigned_abs x ≤ 2 ^ 62 → u ≡ fdiv x (pos (2 ^ 64))
    → to_z w64 (of_z w64 (shr_z (to_z w64 (of_z w64 (to_z w64 (of_z w64 (to_z w64 (of_z w64 (to_z w128 (of_z w128 x))) +ℤ to_z w64 (of_z w64 u))) +ℤ pos 536870912))) 1073741824)) ≡ rdiv x unit_length
shift_by_sign x u h e =
    let small : unsigned_abs u ≤ 1 = sign_small x u h e in
    rw (passed_128 x (omega (arith, h)), passed_64 x (omega (arith, h)), passed_64 u (omega (arith, small)), passed_64 (x +ℤ u) (omega (arith, ints, h, small)), passed_64 (x +ℤ u +ℤ pos 536870912) (omega (arith, ints, h, small)), shifted_by_sign x u (x +ℤ u +ℤ pos 536870912) h e refl) (passed_64 (rdiv x unit_length) (omega (arith, size x h)))
