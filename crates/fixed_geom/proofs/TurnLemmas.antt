-- A turned facing is a facing: the sizes, over natural numbers.
use Rattle.std.proofs.Common.{ℕ, ◌+◌, ◌-◌, ◌*◌, ◌/◌, ◌^◌, ◌<◌, ◌≤◌, ℤ, unsigned_abs, arith, inl, inr}
use Rattle.std.proofs.lemmas.Nat.{mul-le}
use Rattle.std.proofs.lemmas.Bool.{cases_lt}
use Rattle.fixed_geom.specs.Numbers.{nearest, root}
use Rattle.fixed_geom.proofs.QuotientLemmas.{nearest_between, nearest_le}
use Rattle.fixed_geom.proofs.RootLemmas.{root_is, root_below, square_of_sum}

pub square_le : (a b : ℕ) → a ≤ b → a * a ≤ b * b
square_le a b h = mul-le a a b b h h

cancel : (m a b : ℕ) → 0 < m → m * a ≤ m * b → a ≤ b
cancel m a b p h = elim (cases_lt b a) [
  | inl l ↦ (let more : m * (b + 1) ≤ m * a = mul-le m (b + 1) m a (omega arith) (omega arith) in absurd (omega arith))
  | inr l ↦ l
]

-- a part p, the nearest to x / k of a unit, from below and from above
part_least : (x p k : ℕ) → (2 * (x * 2 ^ 30)) ≤ (2 * p + 1) * k → (2 ^ 62) * (x * x) ≤ (k * k) * ((2 * p + 1) * (2 * p + 1))
part_least x p k h =
    let squares : (2 * (x * 2 ^ 30)) * (2 * (x * 2 ^ 30)) ≤ ((2 * p + 1) * k) * ((2 * p + 1) * k) = square_le _ _ h in
    omega arith

part_most : (x p k : ℕ) → x ≤ k → 2 * (p * k) ≤ 2 * (x * 2 ^ 30) + k → (k * k) * (4 * (p * p)) ≤ (2 ^ 62) * (x * x) + (2 ^ 32 + 1) * (k * k)
part_most x p k l h =
    let squares : (2 * (p * k)) * (2 * (p * k)) ≤ (2 * (x * 2 ^ 30) + k) * (2 * (x * 2 ^ 30) + k) = square_le _ _ h in
    let cross : x * k ≤ k * k = mul-le x k k k l (omega arith) in
    omega arith

-- x and y as parts of a unit, where k is the length of (x, y)
pub record AreParts (x y k p q : ℕ) : Type 0 where
  pub far : 2 ^ 29 ≤ k
  pub below : k * k ≤ x * x + y * y
  pub above : x * x + y * y < (k + 1) * (k + 1)
  pub first : x ≤ k
  pub second : y ≤ k
  pub p_least : (2 * (x * 2 ^ 30)) ≤ (2 * p + 1) * k
  pub q_least : (2 * (y * 2 ^ 30)) ≤ (2 * q + 1) * k
  pub p_most : 2 * (p * k) ≤ 2 * (x * 2 ^ 30) + k
  pub q_most : 2 * (q * k) ≤ 2 * (y * 2 ^ 30) + k
  pub p_small : p ≤ 2 ^ 30
  pub q_small : q ≤ 2 ^ 30

parts_least : (x y k p q : ℕ) → AreParts x y k p q → (2 ^ 30 - 2) * (2 ^ 30 - 2) ≤ p * p + q * q
parts_least x y k p q h =
    let one : 0 < k * k = mul-le 1 1 k k (omega arith) (omega arith) in
    let first : (2 ^ 62) * (x * x) ≤ (k * k) * ((2 * p + 1) * (2 * p + 1)) = part_least x p k h.p_least in
    let second : (2 ^ 62) * (y * y) ≤ (k * k) * ((2 * q + 1) * (2 * q + 1)) = part_least y q k h.q_least in
    let both : (k * k) * 2 ^ 62 ≤ (k * k) * ((2 * p + 1) * (2 * p + 1) + (2 * q + 1) * (2 * q + 1)) = omega arith in
    let parts : 2 ^ 62 ≤ (2 * p + 1) * (2 * p + 1) + (2 * q + 1) * (2 * q + 1) = cancel (k * k) _ _ one both in
    omega arith

parts_most : (x y k p q : ℕ) → AreParts x y k p q → p * p + q * q < (2 ^ 30 + 3) * (2 ^ 30 + 3)
parts_most x y k p q h =
    let one : 0 < k * k = mul-le 1 1 k k (omega arith) (omega arith) in
    let first : (k * k) * (4 * (p * p)) ≤ (2 ^ 62) * (x * x) + (2 ^ 32 + 1) * (k * k) = part_most x p k h.first h.p_most in
    let second : (k * k) * (4 * (q * q)) ≤ (2 ^ 62) * (y * y) + (2 ^ 32 + 1) * (k * k) = part_most y q k h.second h.q_most in
    let length : 2 ^ 29 * k ≤ k * k = mul-le (2 ^ 29) k k k h.far (omega arith) in
    let both : (k * k) * (4 * (p * p + q * q)) ≤ (k * k) * (2 ^ 62 + 2 ^ 34 + 2 ^ 33 + 2) = omega arith in
    let parts : 4 * (p * p + q * q) ≤ 2 ^ 62 + 2 ^ 34 + 2 ^ 33 + 2 = cancel (k * k) _ _ one both in
    omega arith

-- p and q are the sizes of a facing's parts
pub record AreSizes (p q : ℕ) : Type 0 where
  pub p_small : p ≤ 2 ^ 30
  pub q_small : q ≤ 2 ^ 30
  pub long : (2 ^ 30 - 2) * (2 ^ 30 - 2) ≤ p * p + q * q
  pub short : p * p + q * q < (2 ^ 30 + 3) * (2 ^ 30 + 3)

parts_of : (x y k : ℕ) → 2 ^ 29 ≤ k → k * k ≤ x * x + y * y → x * x + y * y < (k + 1) * (k + 1) → AreParts x y k (nearest (x * 2 ^ 30) k) (nearest (y * 2 ^ 30) k)
parts_of x y k h l m =
    let p = nearest_between (x * 2 ^ 30) k (omega arith) in
    let q = nearest_between (y * 2 ^ 30) k (omega arith) in
    let first : x ≤ k = root_below (x * x + y * y) x k (omega arith) m in
    let second : y ≤ k = root_below (x * x + y * y) y k (omega arith) m in
    record {
      far = h;
      below = l;
      above = m;
      first = first;
      second = second;
      p_least = omega (arith, p.0);
      q_least = omega (arith, q.0);
      p_most = omega (arith, p.1);
      q_most = omega (arith, q.1);
      p_small = nearest_le (x * 2 ^ 30) k (2 ^ 30) (omega arith) (omega arith);
      q_small = nearest_le (y * 2 ^ 30) k (2 ^ 30) (omega arith) (omega arith);
    }

-- the unit vector along (x, y), which is at least half a unit long
pub sizes_of : (x y : ℕ) → (2 ^ 29) * (2 ^ 29) ≤ x * x + y * y → AreSizes (nearest (x * 2 ^ 30) (root (x * x + y * y))) (nearest (y * 2 ^ 30) (root (x * x + y * y)))
sizes_of x y h =
    let k = root (x * x + y * y) in
    let is = root_is (x * x + y * y) in
    let far : 2 ^ 29 ≤ k = root_below (x * x + y * y) (2 ^ 29) k h is.above in
    let parts = parts_of x y k far is.below is.above in
    record { p_small = parts.p_small; q_small = parts.q_small; long = parts_least x y k _ _ parts; short = parts_most x y k _ _ parts }

-- ---- moved along its tangent by at most a quarter, a facing is still more than half a unit long

sum_at_least : (c s : ℕ) → (2 ^ 30 - 2) * (2 ^ 30 - 2) ≤ c * c + s * s → 2 ^ 30 - 2 ≤ c + s
sum_at_least c s h = elim (cases_lt (c + s) (2 ^ 30 - 2)) [
  | inl l ↦ (let squares : (c + s + 1) * (c + s + 1) ≤ (2 ^ 30 - 2) * (2 ^ 30 - 2) = square_le (c + s + 1) (2 ^ 30 - 2) (omega arith) in absurd (omega arith))
  | inr l ↦ l
]

pub swung_long : (c s x y e f : ℕ) → (2 ^ 30 - 2) * (2 ^ 30 - 2) ≤ c * c + s * s → 4 * e ≤ s + 3 → 4 * f ≤ c + 3 → c ≤ x + e → s ≤ y + f → (2 ^ 29) * (2 ^ 29) ≤ x * x + y * y
swung_long c s x y e f h i j l m =
    let sum : 2 ^ 30 - 2 ≤ c + s = sum_at_least c s h in
    let moved : 3 * 2 ^ 30 - 12 ≤ 4 * (x + y) = omega arith in
    let squares : (3 * 2 ^ 30 - 12) * (3 * 2 ^ 30 - 12) ≤ (4 * (x + y)) * (4 * (x + y)) = square_le _ _ moved in
    let four : 4 * (x * y) ≤ (x + y) * (x + y) = square_of_sum x y in
    omega arith

-- a quarter of a turn's step, rounded
pub tangent_le : (w s e : ℤ) → unsigned_abs w ≤ 2 ^ 28 → ((k : ℕ) → unsigned_abs w * unsigned_abs s ≤ k * 2 ^ 30 → unsigned_abs e ≤ k) → 4 * unsigned_abs e ≤ unsigned_abs s + 3
tangent_le w s e h within =
    let product : unsigned_abs w * unsigned_abs s ≤ 2 ^ 28 * unsigned_abs s = mul-le (unsigned_abs w) (unsigned_abs s) (2 ^ 28) (unsigned_abs s) h (omega arith) in
    let quarter : unsigned_abs e ≤ (unsigned_abs s + 3) / 4 = within ((unsigned_abs s + 3) / 4) (omega arith) in
    omega arith
