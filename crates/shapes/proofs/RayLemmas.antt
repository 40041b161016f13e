-- The hit of a ray is the least of all, and lies on its way.
use Rattle.std.proofs.Common.{◌≡◌, ℕ, ◌^◌, ◌≤◌, Bool, true, false, cond, nat_lt, ℤ, pos, ◌-ℤ◌, ◌*ℤ◌, ◌<ℤ◌, ◌≤ℤ◌, int_lt, int_le, unsigned_abs, List, [], ◌∷◌, All, Option, None, Some, IfSome, ◌⊎◌, inl, inr, refl, sym, ◌∙◌, arith}
use Rattle.std.specs.Int.{int_max}
use Rattle.std.specs.Ordering.{int_eq}
use Rattle.std.proofs.lemmas.Int.{ints}
use Rattle.std.proofs.lemmas.Bool.{cases_Bool, false≢true}
use Rattle.std.proofs.lemmas.Bool.Decides.{nat_tests}
use Rattle.std.proofs.lemmas.List.Elements.{All-nil, All-cons, All-head, All-tail}
use Rattle.fixed_geom.specs.Numbers.{fdiv, isqrt}
use Rattle.fixed_geom.specs.declared.vectors.Vec2.{Vec2}
use Rattle.fixed_geom.specs.Vectors.{opposite}
use Rattle.shapes.specs.declared.pose.Core.{Core}
use Rattle.shapes.specs.declared.beam.Beam.{Beam}
use Rattle.shapes.specs.Cores.{is_point}
use Rattle.shapes.specs.Rays.{whole, fraction, room_of, entered, circle_hit, end_hit, crossed, crossed_from_either_side, side_hit, shifted, to_side, side_hits, earlier, earliest, other_hits, hits, is_inside, core_ray, is_earlier, IsAmongHits, IsEarliest}
use Rattle.shapes.proofs.BeamLemmas.{IsInside, fdiv_inside}

not_earlier_trans : (a b c : Option ℕ) → is_earlier b a ≡ false → is_earlier c b ≡ false → is_earlier c a ≡ false
not_earlier_trans a b None h l = refl
not_earlier_trans None None (Some c) h l = absurd (false≢true (sym l))
not_earlier_trans None (Some b) (Some c) h l = absurd (false≢true (sym h))
not_earlier_trans (Some a) None (Some c) h l = absurd (false≢true (sym l))
not_earlier_trans (Some a) (Some b) (Some c) h l = grind (arith, nat_tests)

self_later : (t : ℕ) → nat_lt t t ≡ false
self_later t = grind (arith, nat_tests)

not_earlier_self : (h : Option ℕ) → is_earlier h h ≡ false
not_earlier_self None = refl
not_earlier_self (Some t) = self_later t

later : (s t : ℕ) → nat_lt t s ≡ true → nat_lt s t ≡ false
later s t h = grind (arith, nat_tests)

record IsEarlier (g h l : Option ℕ) : Type 0 where
  among : (l ≡ g) ⊎ (l ≡ h)
  first : is_earlier g l ≡ false
  second : is_earlier h l ≡ false

earlier_is : (g h : Option ℕ) → IsEarlier g h (earlier g h)
earlier_is None h = record { among = inr refl; first = refl; second = not_earlier_self h }
earlier_is (Some s) None = record { among = inl refl; first = self_later s; second = refl }
earlier_is (Some s) (Some t) = elim (cases_Bool (nat_lt t s)) [
  | inl e ↦ rw e (record { among = inr refl; first = later s t e; second = self_later t })
  | inr e ↦ rw e (record { among = inl refl; first = self_later s; second = e })
]

among_of : (g h m l : Option ℕ) (hs : List (Option ℕ)) → (l ≡ g) ⊎ (l ≡ h) → IsAmongHits m (l ∷ hs) → IsAmongHits m (g ∷ h ∷ hs)
among_of g h m l hs (inl e) (inl k) = inl (k ∙ e)
among_of g h m l hs (inr e) (inl k) = inr (inl (k ∙ e))
among_of g h m l hs e (inr k) = inr (inr k)

earliest_is : (g : Option ℕ) (hs : List (Option ℕ)) → IsEarliest (earliest g hs) (g ∷ hs)
earliest_is g [] = record { among = inl refl; none_earlier = All-cons (λ d. is_earlier d g ≡ false) g [] (not_earlier_self g) (All-nil (λ d. is_earlier d g ≡ false)) }
earliest_is g (h ∷ hs) =
    let l = earlier g h in
    let m = earliest l hs in
    let rest = earliest_is l hs in
    let lesser = earlier_is g h in
    let head : is_earlier l m ≡ false = All-head (λ d. is_earlier d m ≡ false) l hs rest.none_earlier in
    record {
      among = among_of g h m l hs lesser.among rest.among;
      none_earlier = All-cons (λ d. is_earlier d m ≡ false) g (h ∷ hs) (not_earlier_trans m l g head lesser.first)
          (All-cons (λ d. is_earlier d m ≡ false) h hs (not_earlier_trans m l h head lesser.second)
          (All-tail (λ d. is_earlier d m ≡ false) l hs rest.none_earlier));
    }

-- ---- fractions of the way

abbrev IsFraction : Option ℕ → Type 0
IsFraction h = IfSome h (λ t. t ≤ 2 ^ 24)

either_fraction : (b : Bool) (g h : Option ℕ) → IsFraction g → IsFraction h → IsFraction (cond b g h)
either_fraction true g h k l = k
either_fraction false g h k l = l

small_fraction : (t : ℤ) → pos 0 ≤ℤ t → int_lt whole t ≡ false → unsigned_abs t ≤ 2 ^ 24
small_fraction t h l = grind (arith, ints, nat_tests)

fraction_is : (t : ℤ) → pos 0 ≤ℤ t → IsFraction (fraction t)
fraction_is t h = elim (cases_Bool (int_lt whole t)) [
  | inl e ↦ rw e tt
  | inr e ↦ rw e (small_fraction t h e)
]

not_below : (x : ℤ) → pos 0 ≤ℤ int_max x (pos 0)
not_below x = grind (arith, ints, nat_tests)

circle_is : (ahead off radius square : ℤ) → IsFraction (circle_hit ahead off radius square)
unfolding circle_hit
circle_is ahead off radius square =
    let room = room_of radius square off in
    let at = fdiv ((ahead -ℤ isqrt room) *ℤ whole) square in
    let inside = entered ahead room square in
    either_fraction (int_le ahead (pos 0)) None (cond (int_lt room (pos 0)) None inside) tt
    (either_fraction (int_lt room (pos 0)) None inside tt (fraction_is (int_max at (pos 0)) (not_below at)))

end_is : (r : Beam) (radius : ℤ) (e : Vec2) → IsFraction (end_hit r radius e)
unfolding end_hit
end_is r radius e = circle_is _ _ radius _

crossed_at : (den s : ℤ) → int_le den (pos 0) ≡ false → int_lt s (pos 0) ≡ false → int_lt den s ≡ false → unsigned_abs (fdiv (s *ℤ whole) den) ≤ 2 ^ 24
crossed_at den s a b c =
    let some : pos 0 <ℤ den = grind (arith, ints, nat_tests) in
    let low : pos 0 ≤ℤ s = grind (arith, ints, nat_tests) in
    let high : s ≤ℤ den = grind (arith, ints, nat_tests) in
    let inside : IsInside (2 ^ 24) (fdiv (s *ℤ whole) den) = fdiv_inside (s *ℤ whole) den (2 ^ 24) (omega (arith, ints, low)) some (omega (arith, ints, low, high)) in
    inside.small

crossed_is : (den s z : ℤ) → IsFraction (crossed den s z)
unfolding crossed
crossed_is den s z = elim (cases_Bool (int_le den (pos 0))) [
  | inl a ↦ rw a tt
  | inr a ↦ (elim (cases_Bool (int_lt s (pos 0))) [
    | inl b ↦ rw (a, b) tt
    | inr b ↦ (elim (cases_Bool (int_lt den s)) [
      | inl c ↦ rw (a, b, c) tt
      | inr c ↦ rw (a, b, c) (either_fraction (int_lt z (pos 0)) None _ tt (either_fraction (int_lt den z) None _ tt (crossed_at den s a b c)))
    ])
  ])
]

side_is : (r : Beam) (c : Core) → IsFraction (side_hit r c)
unfolding side_hit crossed_from_either_side
side_is r c = either_fraction _ _ _ (crossed_is _ _ _) (crossed_is _ _ _)

earlier_fraction : (g h : Option ℕ) → IsFraction g → IsFraction h → IsFraction (earlier g h)
earlier_fraction None h k l = l
earlier_fraction (Some s) None k l = k
earlier_fraction (Some s) (Some t) k l = elim (cases_Bool (nat_lt t s)) [ inl e ↦ rw e l | inr e ↦ rw e k ]

earliest_fraction : (g : Option ℕ) (hs : List (Option ℕ)) → IsFraction g → All (λ h. IsFraction h) hs → IsFraction (earliest g hs)
earliest_fraction g [] k l = k
earliest_fraction g (h ∷ hs) k l = earliest_fraction (earlier g h) hs (earlier_fraction g h k (All-head (λ h. IsFraction h) h hs l)) (All-tail (λ h. IsFraction h) h hs l)

either_all : (b : Bool) (gs hs : List (Option ℕ)) → All (λ h. IsFraction h) gs → All (λ h. IsFraction h) hs → All (λ h. IsFraction h) (cond b gs hs)
either_all true gs hs k l = k
either_all false gs hs k l = l

sides_are : (r : Beam) (c : Core) (radius : ℤ) → All (λ h. IsFraction h) (side_hits r c radius)
sides_are r c radius =
    let left = side_hit r (shifted c (to_side c radius)) in
    let right = side_hit r (shifted c (opposite (to_side c radius))) in
    let one = All-cons (λ h. IsFraction h) (side_hit r c) [] (side_is r c) (All-nil (λ h. IsFraction h)) in
    let last = All-cons (λ h. IsFraction h) right [] (side_is r (shifted c (opposite (to_side c radius)))) (All-nil (λ h. IsFraction h)) in
    either_all (int_eq radius (pos 0)) (side_hit r c ∷ []) (left ∷ right ∷ []) one
    (All-cons (λ h. IsFraction h) left (right ∷ []) (side_is r (shifted c (to_side c radius))) last)

others_are : (r : Beam) (c : Core) (radius : ℤ) → All (λ h. IsFraction h) (other_hits r c radius)
others_are r c radius =
    either_all (is_point c) [] (end_hit r radius c.q ∷ side_hits r c radius) (All-nil (λ h. IsFraction h))
    (All-cons (λ h. IsFraction h) (end_hit r radius c.q) (side_hits r c radius) (end_is r radius c.q) (sides_are r c radius))

-- what a ray's answer is
pub record IsRayOf (r : Beam) (c : Core) (radius : ℤ) (h : Option ℕ) : Type 0 where
  pub within : IsFraction h
  pub start : is_inside c radius r.from ≡ true → h ≡ Some 0
  pub earliest : is_inside c radius r.from ≡ false → IsEarliest h (hits r c radius)

ray_is : (r : Beam) (c : Core) (radius : ℤ) → IsRayOf r c radius (core_ray r c radius)
unfolding core_ray
ray_is r c radius = record {
  within = either_fraction (is_inside c radius r.from) (Some 0) (earliest (end_hit r radius c.p) (other_hits r c radius)) (omega arith)
      (earliest_fraction (end_hit r radius c.p) (other_hits r c radius) (end_is r radius c.p) (others_are r c radius));
  start = λ e. rw e refl;
  earliest = λ e. rw e (earliest_is (end_hit r radius c.p) (other_hits r c radius));
}

pub is_ray_of : (r : Beam) (c : Core) (radius : ℤ) (h : Option ℕ) → h ≡ core_ray r c radius → IsRayOf r c radius h
is_ray_of r c radius h e = rw e (ray_is r c radius)
