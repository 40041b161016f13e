-- Equations of sums and products of signed numbers, from equations of natural ones.
use Rattle.std.proofs.Common.{◌≡◌, ℕ, ◌+◌, ◌*◌, Bool, true, false, ℤ, neg_ℤ, ◌+ℤ◌, ◌-ℤ◌, ◌*ℤ◌, arith, ap}
use Rattle.std.specs.Prelude.{not}
use Rattle.std.proofs.lemmas.Int.{ints}
use borrow.Author.Differences.{up, down}

-- a sum or a product of numbers
pub data Term : Type 0 where
  Num : ℤ → Term
  Add : Term → Term → Term
  Sub : Term → Term → Term
  Mul : Term → Term → Term
  Neg : Term → Term

abbrev pub value : Term → ℤ
value (Num z) = z
value (Add x y) = value x +ℤ value y
value (Sub x y) = value x -ℤ value y
value (Mul x y) = value x *ℤ value y
value (Neg x) = neg_ℤ (value x)

-- its value is the difference of its two parts, each a polynomial of natural numbers
abbrev pub part : Bool → Term → ℕ
part true (Num z) = up z
part false (Num z) = down z
part b (Add x y) = part b x + part b y
part b (Sub x y) = part b x + part (not b) y
part b (Mul x y) = part true x * part b y + part false x * part (not b) y
part b (Neg x) = part (not b) x

sum_parts : (x y : ℤ) (a b c d : ℕ) → up x + b ≡ down x + a → up y + d ≡ down y + c → up (x +ℤ y) + (b + d) ≡ down (x +ℤ y) + (a + c)
sum_parts x y a b c d h k = omega (arith, ints, h, k)

difference_parts : (x y : ℤ) (a b c d : ℕ) → up x + b ≡ down x + a → up y + d ≡ down y + c → up (x -ℤ y) + (b + c) ≡ down (x -ℤ y) + (a + d)
difference_parts x y a b c d h k = omega (arith, ints, h, k)

product_parts : (x y : ℤ) (a b c d : ℕ) → up x + b ≡ down x + a → up y + d ≡ down y + c → up (x *ℤ y) + (a * d + b * c) ≡ down (x *ℤ y) + (a * c + b * d)
product_parts x y a b c d h k =
    let first : (up x + b) * up y ≡ (down x + a) * up y = ap (λ n. n * up y) h in
    let second : (up x + b) * down y ≡ (down x + a) * down y = ap (λ n. n * down y) h in
    let third : a * (up y + d) ≡ a * (down y + c) = ap (λ n. a * n) k in
    let fourth : b * (up y + d) ≡ b * (down y + c) = ap (λ n. b * n) k in
    let whole : up (x *ℤ y) + (up x * down y + down x * up y) ≡ down (x *ℤ y) + (up x * up y + down x * down y) = omega (arith, ints) in
    omega (arith, first, second, third, fourth, whole)

opposite_parts : (x : ℤ) (a b : ℕ) → up x + b ≡ down x + a → up (neg_ℤ x) + a ≡ down (neg_ℤ x) + b
opposite_parts x a b h = omega (arith, ints, h)

number_parts : (z : ℤ) → up z + down z ≡ down z + up z
number_parts z = omega arith

has_parts : (x : Term) → up (value x) + part false x ≡ down (value x) + part true x
has_parts (Num z) = number_parts z
has_parts (Add x y) = sum_parts (value x) (value y) (part true x) (part false x) (part true y) (part false y) (has_parts x) (has_parts y)
has_parts (Sub x y) = difference_parts (value x) (value y) (part true x) (part false x) (part true y) (part false y) (has_parts x) (has_parts y)
has_parts (Mul x y) = product_parts (value x) (value y) (part true x) (part false x) (part true y) (part false y) (has_parts x) (has_parts y)
has_parts (Neg x) = opposite_parts (value x) (part true x) (part false x) (has_parts x)

by_parts : (x y : ℤ) (a b c d : ℕ) → up x + b ≡ down x + a → up y + d ≡ down y + c → a + d ≡ c + b → x ≡ y
by_parts x y a b c d h k e = omega (arith, ints, h, k, e)

-- two terms whose parts are as far apart are equal
pub ring : (x y : Term) → part true x + part false y ≡ part true y + part false x → value x ≡ value y
ring x y e = by_parts (value x) (value y) (part true x) (part false x) (part true y) (part false y) (has_parts x) (has_parts y) e

-- the squares of the parts of a product of two ways
pub lagrange : (a h f g : ℤ) → (a *ℤ f +ℤ h *ℤ g) *ℤ (a *ℤ f +ℤ h *ℤ g) +ℤ (a *ℤ g -ℤ h *ℤ f) *ℤ (a *ℤ g -ℤ h *ℤ f) ≡ (a *ℤ a +ℤ h *ℤ h) *ℤ (f *ℤ f +ℤ g *ℤ g)
lagrange a h f g =
    let x = Add (Mul (Num a) (Num f)) (Mul (Num h) (Num g)) in
    let y = Sub (Mul (Num a) (Num g)) (Mul (Num h) (Num f)) in
    ring (Add (Mul x x) (Mul y y)) (Mul (Add (Mul (Num a) (Num a)) (Mul (Num h) (Num h))) (Add (Mul (Num f) (Num f)) (Mul (Num g) (Num g)))) (omega arith)
