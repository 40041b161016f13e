use Rattle.std.proofs.Common.{◌≡◌, ℕ, zero, suc, ◌+◌, ◌-◌, ◌*◌, ◌/◌, ◌%◌, ◌<◌, ◌≤◌, ℤ, pos, arith, refl, sym, ◌∙◌, ap, ◌⊎◌, inl, inr, cond, nat_le, nat_lt, Bool, true, false}
use Rattle.std.proofs.lemmas.Nat.{div-add-mod', mod_below, mul-le}
use Rattle.std.proofs.lemmas.Int.{ints}
use Rattle.std.proofs.lemmas.Bool.{cases_lt, leb-true, leb-false}
use Rattle.std.proofs.lemmas.Bool.Decides.{nat_tests}
use Rattle.fixed_geom.specs.Numbers.{root, root_of, nearer_root, isqrt, IsRoot}

-- ---- steps of Newton's

square_up : (x p k : ℕ) → p ≡ x + k → 4 * (x * p) ≤ (x + p) * (x + p)
square_up x p k e = rw e (omega arith)

square_down : (x p k : ℕ) → x ≡ p + k → 4 * (x * p) ≤ (x + p) * (x + p)
square_down x p k e = rw e (omega arith)

-- the square of a sum is at least four times the product of its parts
pub square_of_sum : (x p : ℕ) → 4 * (x * p) ≤ (x + p) * (x + p)
square_of_sum x p = elim (cases_lt x p) [ inl h ↦ square_up x p (p - x) (omega arith) | inr h ↦ square_down x p (x - p) (omega arith) ]

-- a step of Newton's is not below the root
pub step_above : (a x y : ℕ) → 0 < x → x + a / x ≤ 2 * y + 1 → a < (y + 1) * (y + 1)
step_above a x y h k =
    let whole : a / x * x + a % x ≡ a = div-add-mod' a x in
    let rest : a % x < x = mod_below a x h in
    let product : a < x * (a / x + 1) = omega arith in
    let sum : x + (a / x + 1) ≤ 2 * (y + 1) = omega arith in
    let squares : (x + (a / x + 1)) * (x + (a / x + 1)) ≤ (2 * (y + 1)) * (2 * (y + 1)) = mul-le _ _ _ _ sum sum in
    let four : 4 * (x * (a / x + 1)) ≤ (x + (a / x + 1)) * (x + (a / x + 1)) = square_of_sum x (a / x + 1) in
    omega arith

pub square_positive : (a x : ℕ) → a < x * x → 0 < x
square_positive a zero h = absurd (omega arith)
square_positive a (suc x) h = omega arith

-- a number below the square of the cap has no root beyond it
pub capped : (a y cap r : ℕ) → a < (y + 1) * (y + 1) → a < (cap + 1) * (cap + 1) → (r ≡ y) ⊎ (r ≡ cap) → a < (r + 1) * (r + 1)
capped a y cap r h k (inl e) = rw e h
capped a y cap r h k (inr e) = rw e k

-- ---- the root, digit by digit

-- r is the root of n, rounded down
pub record IsRootOf (n r : ℕ) : Type 0 where
  pub below : r * r ≤ n
  pub above : n < (r + 1) * (r + 1)

-- two roots of one number are one
pub root_below : (a j k : ℕ) → j * j ≤ a → a < (k + 1) * (k + 1) → j ≤ k
root_below a j k h l = elim (cases_lt k j) [
  | inl m ↦ (let le : k + 1 ≤ j = omega arith in let squares : (k + 1) * (k + 1) ≤ j * j = mul-le _ _ _ _ le le in absurd (omega arith))
  | inr m ↦ m
]

chosen_is : (b : Bool) (n r : ℕ) → r * r ≤ n → n < (r + 2) * (r + 2) → (b ≡ true → (r + 1) * (r + 1) ≤ n) → (b ≡ false → n < (r + 1) * (r + 1)) → IsRootOf n (cond b (r + 1) r)
chosen_is b n r h k = elim b as (λ v. (v ≡ true → (r + 1) * (r + 1) ≤ n) → (v ≡ false → n < (r + 1) * (r + 1)) → IsRootOf n (cond v (r + 1) r)) [
  | true ↦ (λ yes no. record { below = yes refl; above = omega arith })
  | false ↦ (λ yes no. record { below = h; above = no refl })
]

nearer_is : (n r : ℕ) → r * r ≤ n → n < (r + 2) * (r + 2) → IsRootOf n (nearer_root n r)
nearer_is n r h k = chosen_is (nat_le ((r + 1) * (r + 1)) n) n r h k (leb-true _ _) (leb-false _ _)

-- from the root of a quarter to that of the whole
digit_is : (n r : ℕ) → IsRootOf (n / 4) r → IsRootOf n (nearer_root n (2 * r))
digit_is n r h = nearer_is n (2 * r) (omega arith) (omega arith)

root_of_is : (digits n : ℕ) → n ≤ digits → IsRootOf n (root_of digits n)
unfolding root_of
root_of_is zero n h = record { below = omega arith; above = omega arith }
root_of_is (suc digits) zero h = record { below = omega arith; above = omega arith }
root_of_is (suc digits) (suc n) h = digit_is (suc n) (root_of digits (suc n / 4)) (root_of_is digits (suc n / 4) (omega arith))

pub root_is : (n : ℕ) → IsRootOf n (root n)
unfolding root
root_is n = root_of_is n n (omega arith)

pub is_root : (a k : ℕ) → k * k ≤ a → a < (k + 1) * (k + 1) → k ≡ root a
is_root a k h l =
    let up : k ≤ root a = root_below a k (root a) h (root_is a).above in
    let down : root a ≤ k = root_below a (root a) k (root_is a).below l in
    omega arith

pub record IsFound (a k : ℤ) : Type 0 where
  pub value : k ≡ isqrt a
  pub root : IsRoot a k

-- what `isqrt` ensures
pub found : (a : ℤ) (n k : ℕ) → a ≡ pos n → k * k ≤ n → n < (k + 1) * (k + 1) → IsFound a (pos k)
unfolding isqrt
found a n k e h l = rw e (record {
  value = ap pos (is_root n k h l);
  root = record { nonnegative = omega (arith, ints); below = omega (arith, ints); above = omega (arith, ints) };
})

-- ---- tests of a root are tests of its square

same_at : (a b : Bool) (x y : Bool) → a ≡ x → b ≡ y → (a ≡ true → b ≡ true) → (b ≡ true → a ≡ true) → a ≡ b
same_at a b true y e k f g = e ∙ sym (f e)
same_at a b false true e k f g = g k ∙ sym k
same_at a b false false e k f g = e ∙ sym k

same : (a b : Bool) → (a ≡ true → b ≡ true) → (b ≡ true → a ≡ true) → a ≡ b
same a b f g = same_at a b a b refl refl f g

pub root_at_least : (n k : ℕ) → nat_le k (root n) ≡ nat_le (k * k) n
root_at_least n k = same _ _
    (λ e. let h : k ≤ root n = leb-true _ _ e in
    let squares : k * k ≤ root n * root n = mul-le _ _ _ _ h h in
    let is : IsRootOf n (root n) = root_is n in
    let le : k * k ≤ n = omega arith in grind (arith, nat_tests))
    (λ e. let le : k ≤ root n = root_below n k (root n) (leb-true _ _ e) (root_is n).above in grind (arith, nat_tests))

pub root_at_most : (n k : ℕ) → nat_le (root n) k ≡ nat_lt n ((k + 1) * (k + 1))
root_at_most n k = same _ _
    (λ e. let h : root n + 1 ≤ k + 1 = omega (arith, leb-true (root n) k e) in
    let squares : (root n + 1) * (root n + 1) ≤ (k + 1) * (k + 1) = mul-le _ _ _ _ h h in
    let is : IsRootOf n (root n) = root_is n in
    let lt : n < (k + 1) * (k + 1) = omega arith in grind (arith, nat_tests))
    (λ e. let lt : n < (k + 1) * (k + 1) = grind (arith, nat_tests) in
    let le : root n ≤ k = root_below n (root n) k (root_is n).below lt in grind (arith, nat_tests))
