-- Bits of words that are joined, and tests as bits.
use Rattle.std.proofs.Common.{◌≡◌, ◌≢◌, ℕ, ◌+◌, ◌-◌, ◌*◌, ◌/◌, ◌%◌, ◌^◌, ◌<◌, ◌≤◌, Bool, true, false, not, cond, ◌||◌, ◌&&◌, min, max, w32, refl, ◌∙◌, sym, ap, inl, inr, arith, div-le_self}
use Rattle.std.specs.Prelude.{bit_and, bit_or}
use Rattle.std.specs.Int.{bit_at, bit_not, trailing_zeros}
use Rattle.std.specs.Int.Count.{trailing_of_zero}
use Rattle.std.proofs.lemmas.Bool.{cases_lt}
use Rattle.std.proofs.lemmas.Nat.{or_lt, le_or_r, shr-shr}
use Rattle.std.proofs.lemmas.Nat.Bits.{bit_at_and, bit_at_or, bit_at_not, bit_at-pow_same, bit_at-pow_other, bit_at-lt, bit_at_above, bit_at_clear_other, bit_at-trailing_zeros, bit_at-zero}
use Rattle.graph_colours.specs.declared.limits.TheConstants.{COLOURS}
use Rattle.graph_colours.specs.TakenColours.{bit_of}

pub bit_true : (t : Bool) → bit_of t ≡ 1 → t ≡ true
bit_true true h = refl
bit_true false h = absurd (omega (arith, h))

pub bit_false : (t : Bool) → bit_of t ≡ 0 → t ≡ false
bit_false true h = absurd (omega (arith, h))
bit_false false h = refl

pub greater_bit : (a b : Bool) → max (bit_of a) (bit_of b) ≡ bit_of (a || b)
greater_bit true true = refl
greater_bit true false = refl
greater_bit false true = refl
greater_bit false false = refl

pub set_bit : (t u : Bool) → cond t (bit_of true) (bit_of u) ≡ bit_of (t || u)
set_bit true u = refl
set_bit false u = refl

pub clear_bit : (t u : Bool) → cond t (bit_of false) (bit_of u) ≡ bit_of (not t && u)
clear_bit true u = refl
clear_bit false u = refl

pub both_set : (a b i : ℕ) → bit_at a i ≡ 1 → bit_at b i ≡ 1 → bit_at (bit_and a b) i ≡ 1
both_set a b i x y = bit_at_and a b i ∙ rw (x, y) refl

pub neither_set : (a b i : ℕ) → bit_at (bit_or a b) i ≡ 0 → (bit_at a i ≡ 0) × (bit_at b i ≡ 0)
neither_set a b i h =
    let m : max (bit_at a i) (bit_at b i) ≡ 0 = sym (bit_at_or a b i) ∙ h in
    (omega (arith, m), omega (arith, m))

-- the overflow is set beside any bits
pub overflow_set : (a : ℕ) → bit_at (bit_or a (2 ^ COLOURS)) COLOURS ≡ 0 → ⊥
overflow_set a h =
    let none : bit_at (2 ^ COLOURS) COLOURS ≡ 0 = (neither_set a (2 ^ COLOURS) COLOURS h).1 in
    let one : bit_at (2 ^ COLOURS) COLOURS ≡ 1 = bit_at-pow_same COLOURS in
    omega (arith, none, one)

-- a bit taken away changes no other
pub clear_other : (n k : ℕ) → k < 32 → n < 2 ^ 32 → (i : ℕ) → i ≢ k → bit_at (bit_and n (bit_not w32 (1 * 2 ^ k % 2 ^ 32))) i ≡ bit_at n i
clear_other n k lt small i off =
    let m : ℕ = bit_not w32 (1 * 2 ^ k % 2 ^ 32) in
    let near : i < 32 → bit_at (bit_and n m) i ≡ bit_at n i = λ low. bit_at_clear_other w32 n k lt i low off in
    let far : 32 ≤ i → bit_at (bit_and n m) i ≡ bit_at n i = λ high.
    let none : bit_at n i ≡ 0 = bit_at_above n 32 i small high in
    let both : bit_at (bit_and n m) i ≡ min (bit_at n i) (bit_at m i) = bit_at_and n m i in
    omega (arith, both, none) in
    elim (cases_lt i 32) [ inl low ↦ near low | inr high ↦ far high ]

-- the lowest bit that is clear, or the overflow's
pub record IsFirstClear (n c : ℕ) : Type 0 where
  pub most : c ≤ COLOURS
  pub before : (k : ℕ) → k < c → bit_at n k ≡ 1
  pub free : c < COLOURS → bit_at n c ≡ 0

or_overflow : (n i : ℕ) → n < 2 ^ 32 → i < 32 → bit_at (bit_or (bit_not w32 n) (2 ^ COLOURS)) i ≡ max (1 - bit_at n i) (bit_at (2 ^ COLOURS) i)
or_overflow n i small low = bit_at_or (bit_not w32 n) (2 ^ COLOURS) i ∙ rw (bit_at_not w32 n i small low) refl

pub first_clear : (n : ℕ) → n < 2 ^ 32 → IsFirstClear n (trailing_zeros w32 (bit_or (bit_not w32 n) (2 ^ COLOURS)))
first_clear n small =
    let m : ℕ = bit_or (bit_not w32 n) (2 ^ COLOURS) in
    let high : bit_not w32 n < 2 ^ 32 = omega (arith, small) in
    let bound : m < 2 ^ 32 = or_lt 32 (bit_not w32 n) (2 ^ COLOURS) high (omega arith) in
    let some : 0 < m = let le : 2 ^ COLOURS ≤ m = le_or_r (bit_not w32 n) (2 ^ COLOURS) in omega (arith, le) in
    let low = bit_at-trailing_zeros w32 m some bound in
    let c : ℕ = trailing_zeros w32 m in
    let lt : c < 32 = low.0 in
    let one : bit_at m c ≡ 1 = low.1 in
    let last : bit_at m COLOURS ≡ 1 =
    let pow : bit_at (2 ^ COLOURS) COLOURS ≡ 1 = bit_at-pow_same COLOURS in
    let is : bit_at m COLOURS ≡ max (1 - bit_at n COLOURS) (bit_at (2 ^ COLOURS) COLOURS) = or_overflow n COLOURS small (omega arith) in
    omega (arith, is, pow) in
    record {
      most = let beyond : COLOURS < c → ⊥ = λ over. let z : bit_at m COLOURS ≡ 0 = low.2 COLOURS over in omega (arith, z, last) in omega (arith, beyond);
      before = λ k below.
          let z : bit_at m k ≡ 0 = low.2 k below in
          let is : bit_at m k ≡ max (1 - bit_at n k) (bit_at (2 ^ COLOURS) k) = or_overflow n k small (omega (arith, lt, below)) in
          let two : bit_at n k < 2 = bit_at-lt n k in
          omega (arith, z, is, two);
      free = λ below.
          let off : c ≡ COLOURS → ⊥ = λ q. omega (arith, q, below) in
          let pow : bit_at (2 ^ COLOURS) c ≡ 0 = bit_at-pow_other COLOURS c off in
          let is : bit_at m c ≡ max (1 - bit_at n c) (bit_at (2 ^ COLOURS) c) = or_overflow n c small lt in
          let two : bit_at n c < 2 = bit_at-lt n c in
          omega (arith, one, is, pow, two);
    }

-- ---- bits from one on

-- the bits of a word that is moved down are those from there on
bit_at_shifted : (n k i : ℕ) → bit_at (n / 2 ^ k) i ≡ bit_at n (k + i)
bit_at_shifted n k i = ap (λ x. x % 2) (shr-shr n k i)

-- how many bits of a word are clear before the first that is set; 32 or more where none is
record IsCount (m t : ℕ) : Type 0 where
  pub set : t < 32 → bit_at m t ≡ 1
  pub clear : (i : ℕ) → i < t → bit_at m i ≡ 0

count_none : (m : ℕ) → m ≡ 0 → IsCount m (trailing_zeros w32 m)
count_none m is = record {
  set = λ lt. let all : trailing_zeros w32 m ≡ 32 = ap (trailing_zeros w32) is ∙ trailing_of_zero 32 in absurd (omega (arith, all, lt));
  clear = λ i lt. ap (λ w. bit_at w i) is ∙ bit_at-zero i;
}

count_some : (m : ℕ) → 0 < m → m < 2 ^ 32 → IsCount m (trailing_zeros w32 m)
count_some m some small =
    let low = bit_at-trailing_zeros w32 m some small in
    record {
      set = λ lt. low.1;
      clear = low.2;
    }

count_is : (m : ℕ) → m < 2 ^ 32 → IsCount m (trailing_zeros w32 m)
count_is m small = elim (cases_lt 0 m) [ inl some ↦ count_some m some small | inr none ↦ count_none m (omega (arith, none)) ]

-- the first bit that is set from a number on; 32 or more where none is
pub record IsNextSet (n from c : ℕ) : Type 0 where
  pub ahead : from ≤ c
  pub set : c < 32 → bit_at n c ≡ 1
  pub skipped : (k : ℕ) → from ≤ k → k < c → bit_at n k ≡ 0

pub next_set : (n from : ℕ) → n < 2 ^ 32 → IsNextSet n from (from + trailing_zeros w32 (n / 2 ^ from))
next_set n from small =
    let m : ℕ = n / 2 ^ from in
    let low : m ≤ n = div-le_self n (2 ^ from) in
    let count = count_is m (omega (arith, low, small)) in
    let t : ℕ = trailing_zeros w32 m in
    record {
      ahead = omega arith;
      set = λ lt. let less : t < 32 = omega (arith, lt) in sym (bit_at_shifted n from t) ∙ count.set less;
      skipped = λ k le lt.
          let at : k ≡ from + (k - from) = omega (arith, le) in
          let less : k - from < t = omega (arith, le, lt) in
          ap (bit_at n) at ∙ sym (bit_at_shifted n from (k - from)) ∙ count.clear (k - from) less;
    }
