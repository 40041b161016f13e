-- Quotients by a product with a reciprocal of the divisor.
use Rattle.std.proofs.Common.{◌≡◌, ℕ, zero, suc, ◌+◌, ◌-◌, ◌*◌, ◌/◌, ◌%◌, ◌^◌, ◌<◌, ◌≤◌, ℤ, pos, negsuc, ◌+ℤ◌, ◌-ℤ◌, ◌*ℤ◌, neg_ℤ, ◌<ℤ◌, ◌≤ℤ◌, unsigned_abs, Bool, true, false, cond, int_lt, arith, refl, sym, ◌∙◌, ap, inl, inr}
use Rattle.std.proofs.lemmas.Bool.{cases_lt}
use Rattle.std.proofs.lemmas.Bool.Decides.{nat_tests}
use Rattle.std.proofs.lemmas.Nat.{div-add-mod', le-div, mod_below, mul-le}
use Rattle.std.proofs.lemmas.Int.{ints, unsigned_abs-mul}
use Rattle.fixed_geom.specs.Numbers.{nearest, rdiv, fdiv}
use Rattle.fixed_geom.specs.Reciprocals.{over_inverse_reciprocal, rdiv_reciprocal, share_reciprocal}
use Rattle.fixed_geom.specs.Vectors.{unit_length}
use Rattle.fixed_geom.proofs.Multiples.{times_difference}
use Rattle.fixed_geom.proofs.QuotientLemmas.{nearest_between, quotient_is, rdiv_le}
use Rattle.fixed_geom.proofs.Sizes.{difference_le, product_le}

-- ---- what a reciprocal m of d, which is a little too great, leads past

-- y is below t times 4d: so its product with m is below t times 2^64
below : (y m d t : ℕ) → y * d < 2 ^ 63 → m * d ≤ 2 ^ 62 + d → y + 2 ≤ 4 * (d * t) → y * m < t * 2 ^ 64
below y m d t few near less = elim (cases_lt (y * m) (t * 2 ^ 64)) [
  | inl is ↦ is
  | inr not ↦ absurd (
      let more : d * (t * 2 ^ 64) ≤ d * (y * m) = mul-le d (t * 2 ^ 64) d (y * m) (omega arith) not in
      let most : y * (m * d) ≤ y * (2 ^ 62 + d) = mul-le y (m * d) y (2 ^ 62 + d) (omega arith) near in
      omega (arith, few, less, more, most))
]

-- y is at least t times 4d: so its product with m is above t times 2^64
above : (y m d t : ℕ) → 0 < y → 2 ^ 62 < m * d → 4 * (d * t) ≤ y → t * 2 ^ 64 < y * m
above y m d t some near more = elim (cases_lt (t * 2 ^ 64) (y * m)) [
  | inl is ↦ is
  | inr not ↦ absurd (
      let less : d * (y * m) ≤ d * (t * 2 ^ 64) = mul-le d (y * m) d (t * 2 ^ 64) (omega arith) not in
      let least : y * (2 ^ 62 + 1) ≤ y * (m * d) = mul-le y (2 ^ 62 + 1) y (m * d) (omega arith) (omega (arith, near)) in
      omega (arith, some, more, less, least))
]

-- what it is: the least number above 2^62 / d
near_above : (d : ℕ) → 0 < d → 2 ^ 62 < (2 ^ 62 / d + 1) * d
near_above d p =
    let whole : 2 ^ 62 / d * d + 2 ^ 62 % d ≡ 2 ^ 62 = div-add-mod' (2 ^ 62) d in
    let rest : 2 ^ 62 % d < d = mod_below (2 ^ 62) d p in
    omega (arith, whole, rest)

near_below : (d : ℕ) → 0 < d → (2 ^ 62 / d + 1) * d ≤ 2 ^ 62 + d
near_below d p =
    let whole : 2 ^ 62 / d * d + 2 ^ 62 % d ≡ 2 ^ 62 = div-add-mod' (2 ^ 62) d in
    omega (arith, whole)

-- ---- the upper half of a product with it

-- of a number from zero on
half_up : (n d m : ℕ) → 0 < d → (4 * n + 2 * d) * d < 2 ^ 63 → 2 ^ 62 < m * d → m * d ≤ 2 ^ 62 + d → ((4 * n + 2 * d) * m - 1) / 2 ^ 64 ≡ nearest n d
half_up n d m p few more less =
    let near = nearest_between n d p in
    let least = above (4 * n + 2 * d) m d (nearest n d) (omega (arith, p)) more (omega (arith, near)) in
    let most = below (4 * n + 2 * d) m d (nearest n d + 1) few less (omega (arith, near)) in
    quotient_is ((4 * n + 2 * d) * m - 1) (2 ^ 64) (nearest n d) (omega (arith, least)) (omega (arith, least, most))

-- of one below zero that is less than a half
half_none : (n d y m : ℕ) → 0 < d → 0 < y → y + 4 * n ≡ 2 * d → y * d < 2 ^ 63 → 2 ^ 62 < m * d → m * d ≤ 2 ^ 62 + d → ((y * m - 1) / 2 ^ 64 ≡ 0) × ((nearest n d ≡ 0) × (0 < y * m))
half_none n d y m p some e few more less =
    let least = above y m d 0 some more (omega arith) in
    let most = below y m d 1 few less (omega (arith, e, p)) in
    (quotient_is (y * m - 1) (2 ^ 64) 0 (omega arith) (omega (arith, most)), (quotient_is (2 * n + d) (2 * d) 0 (omega arith) (omega (arith, e, some)), omega (arith, least)))

-- of another: z is what is above 2d
half_down : (n d z m : ℕ) → 0 < d → z + 2 * d ≡ 4 * n → z * d < 2 ^ 63 → 2 ^ 62 < m * d → m * d ≤ 2 ^ 62 + d → nearest n d ≡ suc (z * m / 2 ^ 64)
half_down n d z m p e few more less = at (nearest n d) (nearest_between n d p)
  where
    low : (q : ℕ) → 4 * (d * q) ≤ z → q * 2 ^ 64 ≤ z * m
    low zero h = omega arith
    low (suc q) h = let least = above z m d (suc q) (omega (arith, h, p)) more h in omega (arith, least)

    at : (q : ℕ) → (2 * n < 2 * (q * d) + d) × (2 * (q * d) ≤ 2 * n + d) → q ≡ suc (z * m / 2 ^ 64)
    at zero near = absurd (omega (arith, near, e))
    at (suc q) near =
        let least = low q (omega (arith, near, e)) in
        let most = below z m d (suc q) few less (omega (arith, near, e)) in
        sym (ap suc (quotient_is (z * m) (2 ^ 64) q (omega (arith, least)) (omega (arith, most))))

at_most : (y d : ℕ) → y < 2 ^ 43 → d ≤ 2 ^ 20 → y * d < 2 ^ 63
at_most y d h k = let most : y * d ≤ (2 ^ 43 - 1) * 2 ^ 20 = mul-le y d (2 ^ 43 - 1) (2 ^ 20) (omega (arith, h)) k in omega (arith, most)

-- one less than a natural number that isn't zero
less_one : (k : ℕ) → 0 < k → pos k -ℤ pos 1 ≡ pos (k - 1)
less_one k h = omega (arith, ints, h)

less_negated : (k : ℕ) → neg_ℤ (pos k) -ℤ pos 1 ≡ negsuc k
less_negated zero = refl
less_negated (suc k) = omega (arith, ints)

none_less_one : (m : ℕ) → pos 0 *ℤ pos m -ℤ pos 1 ≡ negsuc 0
none_less_one m = omega (arith, ints)

-- four times a and twice b
half_negative : (n d m : ℕ) (x : ℤ) → 0 < d → d ≤ 2 ^ 20 → unsigned_abs x < 2 ^ 43 → x +ℤ pos (4 * suc n) ≡ pos (2 * d) → 2 ^ 62 < m * d → m * d ≤ 2 ^ 62 + d → fdiv (x *ℤ pos m -ℤ pos 1) (pos (2 ^ 64)) ≡ neg_ℤ (pos (nearest (suc n) d))
unfolding fdiv
half_negative n d m (pos zero) p few small e more less =
    let one : nearest (suc n) d ≡ 1 = quotient_is (2 * suc n + d) (2 * d) 1 (omega (arith, ints, e)) (omega (arith, ints, e, p)) in
    rw (one, none_less_one m) refl
half_negative n d m (pos (suc y)) p few small e more less =
    let none = half_none (suc n) d (suc y) m p (omega arith) (omega (arith, ints, e)) (at_most (suc y) d small few) more less in
    rw (less_one (suc y * m) none.1.1, none.0, none.1.0) refl
half_negative n d m (negsuc z) p few small e more less = at (suc z * m) refl
  where
    down : nearest (suc n) d ≡ suc (suc z * m / 2 ^ 64)
    down = half_down (suc n) d (suc z) m p (omega (arith, ints, e)) (at_most (suc z) d small few) more less

    at : (k : ℕ) → k ≡ suc z * m → fdiv (neg_ℤ (pos k) -ℤ pos 1) (pos (2 ^ 64)) ≡ neg_ℤ (pos (nearest (suc n) d))
    at k h = rw (less_negated k, down, ← h) refl

pub lifted_size : (p l r : ℤ) → p ≡ l *ℤ r → unsigned_abs l < 2 ^ 43 → unsigned_abs r ≤ 2 ^ 62 + 1 → unsigned_abs (p -ℤ pos 1) ≤ 2 ^ 106
lifted_size p l r e h k =
    let few : unsigned_abs (l *ℤ r) ≤ 2 ^ 43 * (2 ^ 62 + 1) = product_le l r (2 ^ 43) (2 ^ 62 + 1) (omega (arith, h)) k in
    let less : unsigned_abs (l *ℤ r -ℤ pos 1) ≤ 2 ^ 43 * (2 ^ 62 + 1) + 1 = difference_le (l *ℤ r) (pos 1) (2 ^ 43 * (2 ^ 62 + 1)) 1 few (omega arith) in
    rw e (omega (arith, less))

pub rdiv_lifted : (a b m x : ℤ) → pos 0 <ℤ b → unsigned_abs b ≤ 2 ^ 20 → unsigned_abs x < 2 ^ 43 → x ≡ pos 4 *ℤ a +ℤ pos 2 *ℤ b → m ≡ pos (2 ^ 62 / unsigned_abs b + 1) → fdiv (x *ℤ m -ℤ pos 1) (pos (2 ^ 64)) ≡ rdiv a b
unfolding rdiv fdiv
rdiv_lifted (pos n) (pos d) m x p few small sum is =
    let some : 0 < d = omega (arith, ints, p) in
    let r = 2 ^ 62 / d + 1 in
    let whole : x ≡ pos (4 * n + 2 * d) = omega (arith, ints, sum) in
    let room = at_most (4 * n + 2 * d) d (omega (arith, ints, whole, small)) few in
    let least = above (4 * n + 2 * d) r d 0 (omega (arith, some)) (near_above d some) (omega arith) in
    rw (is, whole, less_one ((4 * n + 2 * d) * r) (omega (arith, least))) (ap pos (half_up n d r some room (near_above d some) (near_below d some)))
rdiv_lifted (negsuc n) (pos d) m x p few small sum is =
    let some : 0 < d = omega (arith, ints, p) in
    rw is (half_negative n d (2 ^ 62 / d + 1) x some few small (omega (arith, ints, sum)) (near_above d some) (near_below d some))
rdiv_lifted a (negsuc d) m x p few small sum is = absurd p.lt

-- ---- the reciprocals

is_below : (a b : ℤ) → a <ℤ b → int_lt a b ≡ true
is_below a b h = grind (arith, ints, nat_tests)

isn't_below : (a b : ℤ) → b ≤ℤ a → int_lt a b ≡ false
isn't_below a b h = grind (arith, ints, nat_tests)

at_least : (a b : ℤ) → int_lt a b ≡ false → b ≤ℤ a
at_least a b h = grind (arith, ints, nat_tests)

pub reciprocal_is : (b : ℤ) → pos 0 <ℤ b → rdiv_reciprocal b ≡ pos (2 ^ 62 / unsigned_abs b + 1)
unfolding rdiv_reciprocal
reciprocal_is b p = rw (is_below (pos 0) b p) refl

pub reciprocal_nonnegative : (b : ℤ) → pos 0 <ℤ b → pos 0 ≤ℤ rdiv_reciprocal b
reciprocal_nonnegative b p = rw (reciprocal_is b p) (omega (arith, ints))

pub reciprocal_small : (b : ℤ) → pos 0 <ℤ b → unsigned_abs (rdiv_reciprocal b) ≤ 2 ^ 62 + 1
reciprocal_small b p = rw (reciprocal_is b p) (at_most_whole (unsigned_abs b) (omega (arith, ints, p)))
  where
    at_most_whole : (d : ℕ) → 0 < d → 2 ^ 62 / d + 1 ≤ 2 ^ 62 + 1
    at_most_whole d p =
        let most : 2 ^ 62 / d * 1 ≤ 2 ^ 62 / d * d = mul-le (2 ^ 62 / d) 1 (2 ^ 62 / d) d (omega arith) (omega (arith, p)) in
        let near = near_below d p in
        omega (arith, most, near)

-- where there is one of a whole k from lo to hi: the nearest to n / k
pub record HasReciprocal (lo hi n : ℕ) (k r : ℤ) : Type 0 where
  pub least : pos lo ≤ℤ k
  pub most : k ≤ℤ pos hi
  pub value : r ≡ rdiv (pos n) k

has_by : (lo hi n : ℕ) (k r : ℤ) (low high : Bool) → low ≡ int_lt k (pos lo) → high ≡ int_lt (pos hi) k → r ≡ cond low (pos 0) (cond high (pos 0) (rdiv (pos n) k)) → (r ≡ pos 0 → ⊥) → HasReciprocal lo hi n k r
has_by lo hi n k r true high e f is some = absurd (some is)
has_by lo hi n k r false true e f is some = absurd (some is)
has_by lo hi n k r false false e f is some = record { least = at_least k (pos lo) (sym e); most = at_least (pos hi) k (sym f); value = is }

pub has_share : (k r : ℤ) → r ≡ share_reciprocal k → (r ≡ pos 0 → ⊥) → HasReciprocal (2 ^ 32) (2 ^ 57) (2 ^ 94) k r
unfolding share_reciprocal
has_share k r is some = has_by (2 ^ 32) (2 ^ 57) (2 ^ 94) k r (int_lt k (pos (2 ^ 32))) (int_lt (pos (2 ^ 57)) k) refl refl is some

pub has_inverse : (k r : ℤ) → r ≡ over_inverse_reciprocal k → (r ≡ pos 0 → ⊥) → HasReciprocal (2 ^ 20) (2 ^ 54) (2 ^ 82) k r
unfolding over_inverse_reciprocal
has_inverse k r is some = has_by (2 ^ 20) (2 ^ 54) (2 ^ 82) k r (int_lt k (pos (2 ^ 20))) (int_lt (pos (2 ^ 54)) k) refl refl is some

pub share_is : (k : ℤ) → pos (2 ^ 32) ≤ℤ k → k ≤ℤ pos (2 ^ 57) → share_reciprocal k ≡ rdiv (pos (2 ^ 94)) k
unfolding share_reciprocal
share_is k least most = rw (isn't_below k (pos (2 ^ 32)) least, isn't_below (pos (2 ^ 57)) k most) refl

pub inverse_is : (k : ℤ) → pos (2 ^ 20) ≤ℤ k → k ≤ℤ pos (2 ^ 54) → over_inverse_reciprocal k ≡ rdiv (pos (2 ^ 82)) k
unfolding over_inverse_reciprocal
inverse_is k least most = rw (isn't_below k (pos (2 ^ 20)) least, isn't_below (pos (2 ^ 54)) k most) refl

-- one that is too great has none
pub inverse_none : (k : ℤ) → pos (2 ^ 54) <ℤ k → over_inverse_reciprocal k ≡ pos 0
unfolding over_inverse_reciprocal
inverse_none k h = rw (isn't_below k (pos (2 ^ 20)) (omega (arith, ints, h)), is_below (pos (2 ^ 54)) k h) refl

share_size : (k r : ℤ) → HasReciprocal (2 ^ 32) (2 ^ 57) (2 ^ 94) k r → unsigned_abs r ≤ 2 ^ 62
share_size (pos k) r h =
    let size : 2 ^ 94 ≤ 2 ^ 62 * k = mul-le (2 ^ 62) (2 ^ 32) (2 ^ 62) k (omega arith) (omega (arith, ints, h.least)) in
    rw h.value (rdiv_le (pos (2 ^ 94)) (pos k) (2 ^ 62) (omega (arith, ints, h.least)) size)
share_size (negsuc k) r h = absurd (omega (arith, ints, h.least))

inverse_size : (k r : ℤ) → HasReciprocal (2 ^ 20) (2 ^ 54) (2 ^ 82) k r → unsigned_abs r ≤ 2 ^ 62
inverse_size (pos k) r h =
    let size : 2 ^ 82 ≤ 2 ^ 62 * k = mul-le (2 ^ 62) (2 ^ 20) (2 ^ 62) k (omega arith) (omega (arith, ints, h.least)) in
    rw h.value (rdiv_le (pos (2 ^ 82)) (pos k) (2 ^ 62) (omega (arith, ints, h.least)) size)
inverse_size (negsuc k) r h = absurd (omega (arith, ints, h.least))

pub share_small : (k r : ℤ) → r ≡ share_reciprocal k → (r ≡ pos 0 → ⊥) → unsigned_abs r ≤ 2 ^ 62
share_small k r is some = share_size k r (has_share k r is some)

pub inverse_small : (k r : ℤ) → r ≡ over_inverse_reciprocal k → (r ≡ pos 0 → ⊥) → unsigned_abs r ≤ 2 ^ 62
inverse_small k r is some = inverse_size k r (has_inverse k r is some)

-- ---- a product that lies clear of the halves tells the nearest

near_pos : (n d q : ℕ) → 0 < d → 2 * (q * d) < 2 * n + d → 2 * n < 2 * (q * d) + d → q ≡ nearest n d
near_pos n d q p low high = sym (quotient_is (2 * n + d) (2 * d) q (omega (arith, low)) (omega (arith, high)))

-- less than half of the divisor is left
pub rdiv_near : (a b g : ℤ) → pos 0 <ℤ b → unsigned_abs (pos 2 *ℤ a -ℤ pos 2 *ℤ (g *ℤ b)) < unsigned_abs b → g ≡ rdiv a b
unfolding rdiv
rdiv_near (pos n) (pos d) (pos q) p h = ap pos (near_pos n d q (omega (arith, ints, p)) (omega (arith, ints, h)) (omega (arith, ints, h)))
rdiv_near (pos n) (pos d) (negsuc q) p h = absurd (omega (arith, ints, p, h))
rdiv_near (negsuc n) (pos d) (pos zero) p h = rw (← near_pos (suc n) d 0 (omega (arith, ints, p)) (omega (arith, ints, h)) (omega (arith, ints, h))) refl
rdiv_near (negsuc n) (pos d) (pos (suc q)) p h = absurd (omega (arith, ints, p, h))
rdiv_near (negsuc n) (pos d) (negsuc q) p h = rw (← near_pos (suc n) d (suc q) (omega (arith, ints, p)) (omega (arith, ints, h)) (omega (arith, ints, h))) refl
rdiv_near a (negsuc d) g p h = absurd p.lt

times_negated : (k n : ℕ) → pos k *ℤ neg_ℤ (pos n) ≡ neg_ℤ (pos (k * n))
times_negated k zero = omega (arith, ints)
times_negated k (suc n) = refl

moved_factor : (x : ℤ) (r k : ℕ) → pos k *ℤ (x *ℤ pos r) ≡ x *ℤ pos (r * k)
moved_factor (pos x) r k = omega (arith, ints)
moved_factor (negsuc x) r k = times_negated k (suc x * r) ∙ ap (λ n. neg_ℤ (pos n)) (omega arith)

moved_numeral : (q : ℤ) (k : ℕ) → pos k *ℤ (q *ℤ pos (2 ^ 64)) ≡ pos (2 ^ 64) *ℤ (q *ℤ pos k)
moved_numeral (pos q) k = omega (arith, ints)
moved_numeral (negsuc q) k = times_negated k (suc q * 2 ^ 64) ∙ ap (λ n. neg_ℤ (pos n)) (omega arith) ∙ sym (times_negated (2 ^ 64) (suc q * k))

-- what a product p is beside q times 2^64, where the sum of p and a half is as far from both ends as the margin m
pub clear_is : (p z q : ℤ) (rest m : ℕ) → z ≡ p +ℤ pos (2 ^ 63) → q ≡ fdiv z (pos (2 ^ 64)) → pos rest ≡ z -ℤ fdiv z (pos (2 ^ 64)) *ℤ pos (2 ^ 64) → m ≤ rest → rest + m < 2 ^ 64 → unsigned_abs (p -ℤ q *ℤ pos (2 ^ 64)) + m ≤ 2 ^ 63
clear_is p z q rest m sum upper lower low high = at (fdiv z (pos (2 ^ 64))) upper lower
  where
    at : (f : ℤ) → q ≡ f → pos rest ≡ z -ℤ f *ℤ pos (2 ^ 64) → unsigned_abs (p -ℤ q *ℤ pos (2 ^ 64)) + m ≤ 2 ^ 63
    at f e g = omega (arith, ints, sum, e, g, low, high)

-- of the products: u is k times what the product is beside q times 2^64, and v the error times x
left_below : (a q u v c t : ℤ) (k m : ℕ) → unsigned_abs u + m ≤ 2 ^ 63 * k → unsigned_abs v < m → u ≡ c -ℤ pos (2 ^ 64) *ℤ q → v ≡ t -ℤ c → pos (2 ^ 64) *ℤ a ≡ t → unsigned_abs (pos 2 *ℤ a -ℤ pos 2 *ℤ q) < k
left_below a q u v c t k m far near is error whole = omega (arith, ints, far, near, is, error, whole)

-- r is a reciprocal of k, nearly s / k: the product with x tells the nearest whole number to a / k, if what it is
-- beside q times 2^64 leaves a margin to the half, and the error leads no further than that
pub sure_is : (a x q : ℤ) (s r k m : ℕ) → 0 < k → pos (2 ^ 64) *ℤ a ≡ x *ℤ pos s → unsigned_abs x * unsigned_abs (pos s -ℤ pos (r * k)) < m * k → unsigned_abs (x *ℤ pos r -ℤ q *ℤ pos (2 ^ 64)) + m ≤ 2 ^ 63 → q ≡ rdiv a (pos k)
sure_is a x q s r k m p whole error clear = rdiv_near a (pos k) q (omega (arith, ints, p)) left
  where
    beside : ℤ
    beside = x *ℤ pos r -ℤ q *ℤ pos (2 ^ 64)

    off : ℤ
    off = pos s -ℤ pos (r * k)

    -- k times what the product is beside q times 2^64
    far : unsigned_abs (pos k *ℤ beside) + m * k ≤ 2 ^ 63 * k
    far = let most : (unsigned_abs beside + m) * k ≤ 2 ^ 63 * k = mul-le (unsigned_abs beside + m) k (2 ^ 63) k clear (omega arith) in
        rw (unsigned_abs-mul (pos k) beside) (omega (arith, most))

    near : unsigned_abs (x *ℤ off) < m * k
    near = rw (unsigned_abs-mul x off) error

    parted : pos k *ℤ beside ≡ x *ℤ pos (r * k) -ℤ pos k *ℤ (q *ℤ pos (2 ^ 64))
    parted = times_difference (pos k) (x *ℤ pos r) (q *ℤ pos (2 ^ 64)) beside refl ∙ ap (λ v. v -ℤ pos k *ℤ (q *ℤ pos (2 ^ 64))) (moved_factor x r k)

    erring : x *ℤ off ≡ x *ℤ pos s -ℤ x *ℤ pos (r * k)
    erring = times_difference x (pos s) (pos (r * k)) off refl

    turned : pos k *ℤ (q *ℤ pos (2 ^ 64)) ≡ pos (2 ^ 64) *ℤ (q *ℤ pos k)
    turned = moved_numeral q k

    left : unsigned_abs (pos 2 *ℤ a -ℤ pos 2 *ℤ (q *ℤ pos k)) < k
    left = left_below a (q *ℤ pos k) (pos k *ℤ beside) (x *ℤ off) (x *ℤ pos (r * k)) (x *ℤ pos s) k (m * k) far near (rw turned at parted) erring whole

nearest_error : (x : ℤ) (n k m : ℕ) → 0 < k → unsigned_abs x < 2 * m → unsigned_abs x * unsigned_abs (pos n -ℤ pos (nearest n k * k)) < m * k
nearest_error x n k m p few =
    let near = nearest_between n k p in
    let size : 2 * unsigned_abs (pos n -ℤ pos (nearest n k * k)) ≤ k = omega (arith, ints, near) in
    let most : unsigned_abs x * (2 * unsigned_abs (pos n -ℤ pos (nearest n k * k))) ≤ unsigned_abs x * k = mul-le (unsigned_abs x) (2 * unsigned_abs (pos n -ℤ pos (nearest n k * k))) (unsigned_abs x) k (omega arith) size in
    let less : (unsigned_abs x + 1) * k ≤ (2 * m) * k = mul-le (unsigned_abs x + 1) k (2 * m) k (omega (arith, few)) (omega arith) in
    omega (arith, most, less, p)

sure_by : (lo hi n : ℕ) (a x q k r : ℤ) (m : ℕ) → 0 < lo → HasReciprocal lo hi n k r → pos (2 ^ 64) *ℤ a ≡ x *ℤ pos n → unsigned_abs x < 2 * m → unsigned_abs (x *ℤ r -ℤ q *ℤ pos (2 ^ 64)) + m ≤ 2 ^ 63 → q ≡ rdiv a k
unfolding rdiv
sure_by lo hi n a x q (pos k) r m some h whole few clear =
    let p : 0 < k = omega (arith, ints, h.least, some) in
    sure_is a x q n (nearest n k) k m p whole (nearest_error x n k m p few) (rw h.value at clear)
sure_by lo hi n a x q (negsuc k) r m some h whole few clear = absurd (omega (arith, ints, h.least))

-- ---- of what is so taken

-- a share that isn't great is of no great number
share_few : (x q : ℤ) (r : ℕ) → 2 ^ 37 ≤ r → unsigned_abs (x *ℤ pos r -ℤ q *ℤ pos (2 ^ 64)) + 2 ^ 55 ≤ 2 ^ 63 → unsigned_abs q ≤ 2 ^ 28 → unsigned_abs x < 2 ^ 56
share_few x q r least clear small = elim (cases_lt (unsigned_abs x) (2 ^ 56)) [
  | inl is ↦ is
  | inr not ↦ absurd (
      let size : unsigned_abs (x *ℤ pos r) ≡ unsigned_abs x * r = unsigned_abs-mul x (pos r) in
      let more : 2 ^ 56 * 2 ^ 37 ≤ unsigned_abs x * r = mul-le (2 ^ 56) (2 ^ 37) (unsigned_abs x) r not least in
      too_great (x *ℤ pos r) q (rw size more) clear small)
]
  where
    too_great : (p q : ℤ) → 2 ^ 93 ≤ unsigned_abs p → unsigned_abs (p -ℤ q *ℤ pos (2 ^ 64)) + 2 ^ 55 ≤ 2 ^ 63 → unsigned_abs q ≤ 2 ^ 28 → ⊥
    too_great p q more clear small = omega (arith, ints, more, clear, small)

whole_few : (x q k r : ℤ) → HasReciprocal (2 ^ 32) (2 ^ 57) (2 ^ 94) k r → unsigned_abs (x *ℤ r -ℤ q *ℤ pos (2 ^ 64)) + 2 ^ 55 ≤ 2 ^ 63 → unsigned_abs q ≤ 2 ^ 28 → unsigned_abs x < 2 ^ 56
unfolding rdiv
whole_few x q (pos k) r h clear small =
    let most : k ≤ 2 ^ 57 = omega (arith, ints, h.most) in
    let some : 2 ^ 32 ≤ k = omega (arith, ints, h.least) in
    share_few x q (nearest (2 ^ 94) k) (le-div (2 ^ 37) (2 * 2 ^ 94 + k) (2 * k) (omega (arith, some)) (omega (arith, most))) (rw h.value at clear) small
whole_few x q (negsuc k) r h clear small = absurd (omega (arith, ints, h.least))

pub share_sure : (x k r q : ℤ) → r ≡ share_reciprocal k → (r ≡ pos 0 → ⊥) → unsigned_abs (x *ℤ r -ℤ q *ℤ pos (2 ^ 64)) + 2 ^ 55 ≤ 2 ^ 63 → unsigned_abs q ≤ 2 ^ 28 → q ≡ rdiv (x *ℤ unit_length) k
share_sure x k r q is some clear small =
    let h = has_share k r is some in
    sure_by (2 ^ 32) (2 ^ 57) (2 ^ 94) (x *ℤ unit_length) x q k r (2 ^ 55) (omega arith) h (omega (arith, ints)) (whole_few x q k r h clear small) clear

pub quotient_sure : (x k r q : ℤ) → r ≡ share_reciprocal k → (r ≡ pos 0 → ⊥) → unsigned_abs x < 2 ^ 48 → unsigned_abs (pos 1024 *ℤ x *ℤ r -ℤ q *ℤ pos (2 ^ 64)) + 2 ^ 57 ≤ 2 ^ 63 → q ≡ rdiv (x *ℤ pos (2 ^ 40)) k
quotient_sure x k r q is some few clear =
    sure_by (2 ^ 32) (2 ^ 57) (2 ^ 94) (x *ℤ pos (2 ^ 40)) (pos 1024 *ℤ x) q k r (2 ^ 57) (omega arith) (has_share k r is some) (omega (arith, ints)) (omega (arith, ints, few)) clear

pub impulse_sure : (x k r q : ℤ) → r ≡ over_inverse_reciprocal k → (r ≡ pos 0 → ⊥) → unsigned_abs x < 2 ^ 22 → unsigned_abs (pos 4194304 *ℤ x *ℤ r -ℤ q *ℤ pos (2 ^ 64)) + 2 ^ 43 ≤ 2 ^ 63 → q ≡ rdiv (x *ℤ pos (2 ^ 40)) k
impulse_sure x k r q is some few clear =
    sure_by (2 ^ 20) (2 ^ 54) (2 ^ 82) (x *ℤ pos (2 ^ 40)) (pos 4194304 *ℤ x) q k r (2 ^ 43) (omega arith) (has_inverse k r is some) (omega (arith, ints)) (omega (arith, ints, few)) clear

pub impulse_within : (x k : ℤ) → unsigned_abs x < 2 ^ 22 → pos (2 ^ 20) ≤ℤ k → unsigned_abs (rdiv (x *ℤ pos (2 ^ 40)) k) ≤ 2 ^ 42
impulse_within x k few least =
    let size : unsigned_abs (x *ℤ pos (2 ^ 40)) ≡ unsigned_abs x * 2 ^ 40 = unsigned_abs-mul x (pos (2 ^ 40)) in
    rdiv_le (x *ℤ pos (2 ^ 40)) k (2 ^ 42) (omega (arith, ints, least)) (omega (arith, ints, size, few, least))
