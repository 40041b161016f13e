use Rattle.std.proofs.Common.{◌≡◌, ℕ, ◌+◌, ◌-◌, ◌*◌, ◌^◌, ◌<◌, ◌≤◌, ◌&&◌, nat_le, nat_lt, ℤ, pos, negsuc, suc, ◌+ℤ◌, ◌-ℤ◌, ◌*ℤ◌, unsigned_abs, arith, refl, ap, ◌∙◌, false, true, ◌⊎◌, inl, inr}
use Rattle.std.proofs.lemmas.Nat.{mul-le}
use Rattle.std.proofs.lemmas.Int.{ints, unsigned_abs-mul}
use Rattle.std.proofs.lemmas.Bool.{cases_lt}
use Rattle.std.proofs.lemmas.Bool.Decides.{nat_tests, same_from_decides, Decides-int_eq}
use Rattle.std.specs.Ordering.{int_eq}
use Rattle.fixed_geom.specs.Numbers.{rdiv, nearest}
use Rattle.fixed_geom.specs.Facings.{is_facing, IsFacing, IsLong, direction, rotate, facing_along, swung, turn}
use Rattle.fixed_geom.specs.Vectors.{IsWithin, unit_length, unit, span, dot, cross}
use Rattle.fixed_geom.specs.declared.vectors.Vec2.{Vec2}
use Rattle.fixed_geom.specs.declared.facings.Rot.{Rot}
use Rattle.fixed_geom.proofs.RootLemmas.{root_at_least, root_at_most, square_of_sum}
use Rattle.fixed_geom.proofs.QuotientLemmas.{abs_neg, rdiv_le}
use Rattle.fixed_geom.proofs.Sizes.{sum_le, difference_le}
use Rattle.fixed_geom.proofs.TurnLemmas.{AreSizes, sizes_of}
use Rattle.fixed_geom.proofs.VectorLemmas.{span_is}

-- the square of a facing's length
abbrev pub square_of : Rot → ℕ
square_of q = unsigned_abs q.c * unsigned_abs q.c + unsigned_abs q.s * unsigned_abs q.s

-- the test of a facing's length is one of its square
pub is_facing-square : (q : Rot) → is_facing q ≡ (nat_le ((2 ^ 30 - 2) * (2 ^ 30 - 2)) (square_of q) && nat_lt (square_of q) ((2 ^ 30 + 3) * (2 ^ 30 + 3)))
unfolding is_facing
is_facing-square q = rw (span_is (direction q), root_at_least (square_of q) (2 ^ 30 - 2), root_at_most (square_of q) (2 ^ 30 + 2)) refl

long_square : (x y : ℕ) → 2 ^ 30 + 2 < x → (2 ^ 30 + 3) * (2 ^ 30 + 3) ≤ x * x + y
long_square x y h =
    let squares : (2 ^ 30 + 3) * (2 ^ 30 + 3) ≤ x * x = mul-le (2 ^ 30 + 3) (2 ^ 30 + 3) x x (omega arith) (omega arith) in
    omega arith

-- the test's three ends, at the sizes c and s of q's parts
pub is_facing-long : (q : Rot) (c s : ℕ) → c ≡ unsigned_abs q.c → s ≡ unsigned_abs q.s → (2 ^ 30 + 2 < c) ⊎ ((c ≤ 2 ^ 30 + 2) × (2 ^ 30 + 2 < s)) → false ≡ is_facing q
is_facing-long q c s e d (inl h) =
    let far : (2 ^ 30 + 3) * (2 ^ 30 + 3) ≤ c * c + s * s = long_square c (s * s) h in
    rw (is_facing-square q, ← e, ← d) (grind (arith, nat_tests))
is_facing-long q c s e d (inr h) =
    let far : (2 ^ 30 + 3) * (2 ^ 30 + 3) ≤ s * s + c * c = long_square s (c * c) h.1 in
    rw (is_facing-square q, ← e, ← d) (grind (arith, nat_tests))

pub is_facing-then : (q : Rot) (c s : ℕ) → c ≡ unsigned_abs q.c → s ≡ unsigned_abs q.s → (2 ^ 30 - 2) * (2 ^ 30 - 2) ≤ c * c + s * s → nat_lt (c * c + s * s) ((2 ^ 30 + 3) * (2 ^ 30 + 3)) ≡ is_facing q
is_facing-then q c s e d h = rw (is_facing-square q, ← e, ← d) (grind (arith, nat_tests))

pub is_facing-else : (q : Rot) (c s : ℕ) → c ≡ unsigned_abs q.c → s ≡ unsigned_abs q.s → c * c + s * s < (2 ^ 30 - 2) * (2 ^ 30 - 2) → nat_le ((2 ^ 30 - 2) * (2 ^ 30 - 2)) (c * c + s * s) ≡ is_facing q
is_facing-else q c s e d h = rw (is_facing-square q, ← e, ← d) (grind (arith, nat_tests))

sum_at_most : (c s : ℕ) → c * c + s * s < (2 ^ 30 + 3) * (2 ^ 30 + 3) → c + s ≤ 2 ^ 31
sum_at_most c s h = elim (cases_lt (2 ^ 31) (c + s)) [
  | inl m ↦ (let squares : (2 ^ 31) * (2 ^ 31) ≤ (c + s) * (c + s) = mul-le (2 ^ 31) (2 ^ 31) (c + s) (c + s) (omega arith) (omega arith) in
      let four : 4 * (c * s) ≤ (c + s) * (c + s) = square_of_sum c s in
      absurd (omega arith))
  | inr m ↦ m
]

-- a facing's parts together are below the square root of two, so that a turned vector at most doubles
pub facing_sum : (q : Rot) → IsFacing q → unsigned_abs q.c + unsigned_abs q.s ≤ 2 ^ 31
facing_sum q h = sum_at_most (unsigned_abs q.c) (unsigned_abs q.s) h.short

part_le : (c s x y k n : ℕ) → c + s ≤ 2 ^ 31 → x ≤ k → y ≤ k → n ≤ c * x + s * y → n ≤ (2 * k) * 2 ^ 30
part_le c s x y k n h a b l =
    let first : c * x ≤ c * k = mul-le c x c k (omega arith) a in
    let second : s * y ≤ s * k = mul-le s y s k (omega arith) b in
    let both : (c + s) * k ≤ 2 ^ 31 * k = mul-le (c + s) k (2 ^ 31) k h (omega arith) in
    omega arith

-- the two parts of a turned vector, before they are divided
pub rotated_x_le : (q : Rot) (v : Vec2) (k : ℕ) (sum : ℤ) → IsFacing q → IsWithin k v → unsigned_abs sum ≤ unsigned_abs q.c * unsigned_abs v.x + unsigned_abs q.s * unsigned_abs v.y → unsigned_abs sum ≤ (2 * k) * 2 ^ 30
rotated_x_le q v k sum h w l = part_le (unsigned_abs q.c) (unsigned_abs q.s) (unsigned_abs v.x) (unsigned_abs v.y) k (unsigned_abs sum) (facing_sum q h) w.x w.y l

pub rotated_y_le : (q : Rot) (v : Vec2) (k : ℕ) (sum : ℤ) → IsFacing q → IsWithin k v → unsigned_abs sum ≤ unsigned_abs q.s * unsigned_abs v.x + unsigned_abs q.c * unsigned_abs v.y → unsigned_abs sum ≤ (2 * k) * 2 ^ 30
rotated_y_le q v k sum h w l =
    let together : unsigned_abs q.s + unsigned_abs q.c ≤ 2 ^ 31 = omega (arith, facing_sum q h) in
    part_le (unsigned_abs q.s) (unsigned_abs q.c) (unsigned_abs v.x) (unsigned_abs v.y) k (unsigned_abs sum) together w.x w.y l

sum_size : (a b x y : ℤ) → unsigned_abs (a *ℤ x +ℤ b *ℤ y) ≤ unsigned_abs a * unsigned_abs x + unsigned_abs b * unsigned_abs y
sum_size a b x y = rw (← unsigned_abs-mul a x, ← unsigned_abs-mul b y) (sum_le (a *ℤ x) (b *ℤ y) _ _ (omega arith) (omega arith))

difference_size : (a b x y : ℤ) → unsigned_abs (a *ℤ x -ℤ b *ℤ y) ≤ unsigned_abs a * unsigned_abs x + unsigned_abs b * unsigned_abs y
difference_size a b x y = rw (← unsigned_abs-mul a x, ← unsigned_abs-mul b y) (difference_le (a *ℤ x) (b *ℤ y) _ _ (omega arith) (omega arith))

-- a turned vector at most doubles
pub rotate_within : (q : Rot) (v : Vec2) (k : ℕ) → IsFacing q → IsWithin k v → IsWithin (2 * k) (rotate q v)
rotate_within q v k h w = record {
  x = rdiv_le (q.c *ℤ v.x -ℤ q.s *ℤ v.y) unit_length (2 * k) (omega (arith, ints)) (rotated_x_le q v k (q.c *ℤ v.x -ℤ q.s *ℤ v.y) h w (difference_size q.c q.s v.x v.y));
  y = rdiv_le (q.s *ℤ v.x +ℤ q.c *ℤ v.y) unit_length (2 * k) (omega (arith, ints)) (rotated_y_le q v k (q.s *ℤ v.x +ℤ q.c *ℤ v.y) h w (sum_size q.s q.c v.x v.y));
}

exchanged : (a b : ℤ) → a +ℤ b ≡ b +ℤ a
exchanged a b = omega (arith, ints)

-- the two parts, as the products of a direction and a mirrored vector
pub rotate_by_products : (q : Rot) (v : Vec2) → record { x = rdiv (cross (record { x = q.c; y = q.s }) (record { x = v.y; y = v.x })) unit_length; y = rdiv (dot (record { x = q.c; y = q.s }) (record { x = v.y; y = v.x })) unit_length } ≡ rotate q v
unfolding cross dot
rotate_by_products q v = rw (exchanged (q.c *ℤ v.y) (q.s *ℤ v.x)) refl

-- ---- the facing along a vector

abs_rdiv : (a b : ℤ) → unsigned_abs (rdiv a b) ≡ nearest (unsigned_abs a) (unsigned_abs b)
unfolding rdiv
abs_rdiv (pos n) b = refl
abs_rdiv (negsuc n) b = abs_neg (nearest (suc n) (unsigned_abs b))

-- the size of a part of a unit vector
abs_part : (a b : ℤ) (k : ℕ) → b ≡ pos k → unsigned_abs (rdiv (a *ℤ unit_length) b) ≡ nearest (unsigned_abs a * 2 ^ 30) k
abs_part a b k e = rw e (abs_rdiv (a *ℤ unit_length) (pos k) ∙ ap (λ n. nearest n k) (unsigned_abs-mul a unit_length))

facing_from : (q : Rot) (p r : ℕ) → unsigned_abs q.c ≡ p → unsigned_abs q.s ≡ r → AreSizes p r → IsFacing q
facing_from q p r e d h = record {
  c = rw e (omega (arith, h.p_small));
  s = rw d (omega (arith, h.q_small));
  long = rw (e, d) h.long;
  short = rw (e, d) h.short;
}

pub facing_along_is : (d : Vec2) → IsLong d → IsFacing (facing_along d)
unfolding unit
facing_along_is d h =
    facing_from (facing_along d) _ _ (abs_part d.x (span d) _ (span_is d)) (abs_part d.y (span d) _ (span_is d)) (sizes_of (unsigned_abs d.x) (unsigned_abs d.y) h.long)

-- ---- turning

pub turn-still : (q : Rot) (w : ℤ) → w ≡ pos 0 → turn q w ≡ q
unfolding turn
turn-still q w e = rw e refl

other_than : (w : ℤ) → (w ≡ pos 0 → ⊥) → int_eq w (pos 0) ≡ false
other_than w h = same_from_decides (int_eq w (pos 0)) false (Decides-int_eq w (pos 0)) (λ e. absurd (let no : false ≡ true = e in cc), λ e. absurd (h e))

pub turn-spun : (q : Rot) (w : ℤ) → (w ≡ pos 0 → ⊥) → turn q w ≡ facing_along (swung q w)
unfolding turn
turn-spun q w h = rw (other_than w h) refl
