-- How far two circles are apart.
use Rattle.std.proofs.Common.{◌≡◌, ℕ, ◌+◌, ◌*◌, ◌<◌, ◌≤◌, negsuc, true, ℤ, pos, ◌+ℤ◌, ◌-ℤ◌, ◌*ℤ◌, ◌≤ℤ◌, ◌<ℤ◌, unsigned_abs, arith}
use Rattle.std.specs.Prelude.{int_lt, int_le}
use Rattle.std.proofs.lemmas.Int.{ints}
use Rattle.std.proofs.lemmas.Nat.{mul-le}
use Rattle.fixed_geom.specs.Numbers.{IsRoot}
use Rattle.fixed_geom.specs.Vectors.{IsWithin, dot, minus, span}
use Rattle.fixed_geom.specs.declared.vectors.Vec2.{Vec2}
use Rattle.fixed_geom.proofs.VectorLemmas.{dot_self, span_root}
use Rattle.shapes.specs.declared.discs.Disc.{Disc}
use Rattle.shapes.specs.Discs.{disc_point}
use Rattle.shapes.proofs.CircleLaws.{disc_gap}
use Rattle.shapes.proofs.PointLemmas.{outside}

wide : (r t gap : ℤ) → (r +ℤ t) <ℤ gap → int_lt (pos 0) (gap -ℤ r -ℤ t) ≡ true
wide r t gap h = grind (arith, ints)

-- where two circles are apart, so is the point of their manifold
pub gap_of_discs : (a b : Disc) (x y : Vec2) → (a.radius +ℤ b.radius) <ℤ span (minus b.center a.center) → int_lt (pos 0) (disc_point a b x y).separation ≡ true
gap_of_discs a b x y h = rw (disc_gap a b x y) (wide a.radius b.radius _ h)

-- ---- the squares tell the lengths

squares_above : (k r d : ℕ) → (k + 1) * (k + 1) ≤ d → d < (r + 1) * (r + 1) → k < r
squares_above k r d h l =
    let not : r ≤ k → ⊥ = λ le. let step : r + 1 ≤ k + 1 = omega arith in let m : (r + 1) * (r + 1) ≤ (k + 1) * (k + 1) = mul-le _ _ _ _ step step in omega arith in
    omega (arith, not)

pub longer_from : (k r d : ℤ) → pos 0 ≤ℤ k → IsRoot d r → ((k +ℤ pos 1) *ℤ (k +ℤ pos 1)) ≤ℤ d → k <ℤ r
longer_from (pos k) (pos r) (pos d) h root le = let lt : k < r = squares_above k r d (omega (arith, ints, le)) (omega (arith, ints, root.above)) in omega (arith, ints)
longer_from (pos k) (pos r) (negsuc d) h root le = absurd (omega (arith, ints, root.below))
longer_from (pos k) (negsuc r) d h root le = absurd (omega (arith, ints, root.nonnegative))
longer_from (negsuc k) r d h root le = absurd (omega (arith, ints))

pub longer : (way : Vec2) (k : ℤ) → pos 0 ≤ℤ k → ((k +ℤ pos 1) *ℤ (k +ℤ pos 1)) ≤ℤ dot way way → k <ℤ span way
longer way k h le = longer_from k (span way) (dot way way) h (span_root way) le

next_square : (x : ℤ) → dot (record { x = x; y = pos 0 }) (record { x = x; y = pos 0 }) ≡ x *ℤ x
unfolding dot
next_square x = omega (arith, ints)

pub le_from : (a b : ℤ) → int_le a b ≡ true → a ≤ℤ b
le_from a b h = grind (arith, ints)

pub longer_by : (way : Vec2) (k square length : ℤ) → pos 0 ≤ℤ k → length ≡ dot way way → square ≡ dot (record { x = k +ℤ pos 1; y = pos 0 }) (record { x = k +ℤ pos 1; y = pos 0 }) → square ≤ℤ length → k <ℤ span way
longer_by way k square length h l s le = longer way k h (rw (l, s, next_square (k +ℤ pos 1)) at le)

square_le : (k n d : ℕ) → n ≡ k → (n + 1) * (n + 1) ≤ d → ((pos k +ℤ pos 1) *ℤ (pos k +ℤ pos 1)) ≤ℤ pos d
square_le k n d e h = let square : (k + 1) * (k + 1) ≤ d = rw (← e) h in omega (arith, ints, square)

-- a way with a part beyond k is longer than k
pub longer_outside : (way : Vec2) (k : ℤ) (n : ℕ) → pos 0 ≤ℤ k → n ≡ unsigned_abs k → (IsWithin n way → ⊥) → k <ℤ span way
longer_outside way (pos k) n h e l =
    let square = outside way n l in
    let le : ((pos k +ℤ pos 1) *ℤ (pos k +ℤ pos 1)) ≤ℤ dot way way = rw (dot_self way) (square_le k n _ e square) in
    longer way (pos k) h le
longer_outside way (negsuc k) n h e l = absurd (omega (arith, ints, h))
