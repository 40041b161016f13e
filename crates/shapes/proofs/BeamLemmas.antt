-- Sizes on the way of a ray.
use Rattle.std.proofs.Common.{◌≡◌, ℕ, ◌+◌, ◌*◌, ◌^◌, ◌<◌, ◌≤◌, Bool, true, false, cond, ℤ, pos, negsuc, ◌*ℤ◌, ◌<ℤ◌, ◌≤ℤ◌, unsigned_abs, int_lt, int_le, Option, None, inl, inr, arith, refl}
use Rattle.std.proofs.lemmas.Int.{ints}
use Rattle.std.proofs.lemmas.Nat.{mul-le}
use Rattle.std.proofs.lemmas.Bool.{cases_lt, false≢true}
use Rattle.std.proofs.lemmas.Bool.Decides.{nat_tests}
use Rattle.std.proofs.Math.Nat.{div-le_of_le-mul}
use Rattle.fixed_geom.specs.Numbers.{fdiv}
use Rattle.fixed_geom.specs.Vectors.{dot, opposite}
use Rattle.fixed_geom.specs.declared.vectors.Vec2.{Vec2}
use Rattle.fixed_geom.proofs.VectorLemmas.{dot_positive}
use Rattle.fixed_geom.proofs.Sizes.{product_le}
use Rattle.std.specs.Ordering.{int_eq}
use Rattle.shapes.specs.declared.pose.Core.{Core}
use Rattle.shapes.specs.declared.beam.Beam.{Beam}
use Rattle.shapes.specs.Rays.{room_of, entered, circle_hit, earlier, earliest, side_hit, side_hits, shifted, to_side}

square_is : (x : ℤ) → x *ℤ x ≡ pos (unsigned_abs x * unsigned_abs x)
square_is (pos n) = refl
square_is (negsuc n) = refl

below_zero : (x : ℤ) → x <ℤ pos 0 → int_lt x (pos 0) ≡ true
below_zero x h = grind (arith, ints, nat_tests)

no_room : (radius square off : ℤ) → unsigned_abs radius ≤ 2 ^ 24 → unsigned_abs square ≤ 2 ^ 57 → 2 ^ 53 < unsigned_abs off → room_of radius square off <ℤ pos 0
no_room radius square off h l m =
    let area : unsigned_abs (radius *ℤ radius *ℤ square) ≤ 2 ^ 24 * 2 ^ 24 * 2 ^ 57 =
    product_le (radius *ℤ radius) square (2 ^ 24 * 2 ^ 24) (2 ^ 57) (product_le radius radius (2 ^ 24) (2 ^ 24) h h) l in
    let far : 2 ^ 53 * 2 ^ 53 ≤ unsigned_abs off * unsigned_abs off = mul-le (2 ^ 53) (2 ^ 53) (unsigned_abs off) (unsigned_abs off) (omega (arith, m)) (omega (arith, m)) in
    rw (square_is off) (omega (arith, ints, area, far))

none_either_way : (b c : Bool) (h : Option ℕ) → c ≡ true → None ≡ cond b None (cond c None h)
none_either_way true c h e = refl
none_either_way false true h e = refl
none_either_way false false h e = absurd (false≢true e)

-- a line that passes far off misses
pub missed : (ahead off radius square : ℤ) → unsigned_abs radius ≤ 2 ^ 24 → unsigned_abs square ≤ 2 ^ 57 → 2 ^ 53 < unsigned_abs off → None ≡ circle_hit ahead off radius square
unfolding circle_hit
missed ahead off radius square h l m =
    none_either_way (int_le ahead (pos 0)) (int_lt (room_of radius square off) (pos 0)) (entered ahead (room_of radius square off) square)
    (below_zero (room_of radius square off) (no_room radius square off h l m))

is_zero : (x : ℤ) → unsigned_abs x ≤ 0 → x ≡ pos 0
is_zero x h = omega (arith, ints)

times_zero : (x : ℤ) → x *ℤ pos 0 ≡ pos 0
times_zero x = omega (arith, ints)

dot_zero : (d f : Vec2) → unsigned_abs f.x + unsigned_abs f.y ≤ 0 → dot d f ≡ pos 0
unfolding dot
dot_zero d f h =
    let x : f.x ≡ pos 0 = is_zero f.x (omega (arith, h)) in
    let y : f.y ≡ pos 0 = is_zero f.y (omega (arith, h)) in
    rw (x, y, times_zero d.x, times_zero d.y) refl

-- a way that something lies ahead on isn't zero
pub ahead_positive : (d f : Vec2) → pos 0 <ℤ dot d f → pos 0 <ℤ dot f f
ahead_positive d f h = elim (cases_lt 0 (unsigned_abs f.x + unsigned_abs f.y)) [
  | inl some ↦ dot_positive f some
  | inr none ↦ (let zero_way : dot d f ≡ pos 0 = dot_zero d f none in absurd (omega (arith, ints, h, zero_way)))
]

pub record IsInside (k : ℕ) (q : ℤ) : Type 0 where
  pub nonnegative : pos 0 ≤ℤ q
  pub small : unsigned_abs q ≤ k

pub fdiv_inside : (a b : ℤ) (k : ℕ) → pos 0 ≤ℤ a → pos 0 <ℤ b → unsigned_abs a ≤ unsigned_abs b * k → IsInside k (fdiv a b)
unfolding fdiv
fdiv_inside (pos n) b k h p l = record { nonnegative = omega (arith, ints); small = div-le_of_le-mul (unsigned_abs b) l }
fdiv_inside (negsuc n) b k h p l = absurd (omega (arith, ints, h))

pub with_sides : (best : Option ℕ) (r : Beam) (c : Core) (radius : ℤ) → int_eq radius (pos 0) ≡ false →
    earlier (earlier best (side_hit r (shifted c (to_side c radius)))) (side_hit r (shifted c (opposite (to_side c radius)))) ≡ earliest best (side_hits r c radius)
with_sides best r c radius e = rw e refl
