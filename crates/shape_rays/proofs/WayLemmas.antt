-- A box through which a point of the way goes is reached, and so is each box that holds one that is reached.
use Rattle.std.proofs.Common.{◌≡◌, Bool, true, false, cond, ◌&&◌, ℤ, pos, neg_ℤ, ◌+ℤ◌, ◌-ℤ◌, ◌*ℤ◌, ◌≤ℤ◌, int_le, unsigned_abs, arith, refl, sym, ◌∙◌, subst}
use Rattle.std.specs.Int.{int_min, int_max}
use Rattle.std.proofs.lemmas.Int.{ints}
use Rattle.std.proofs.lemmas.Bool.{false≢true}
use Rattle.std.proofs.lemmas.Bool.Decides.{nat_tests}
use Rattle.fixed_geom.specs.Boxes.{Contains, Overlaps, spans_meet, overlaps}
use Rattle.fixed_geom.specs.Vectors.{dot, cross, minus}
use Rattle.fixed_geom.specs.declared.boxes.Box2.{Box2}
use Rattle.fixed_geom.specs.declared.vectors.Vec2.{Vec2}
use Rattle.shapes.specs.declared.beam.Beam.{Beam}
use Rattle.shape_rays.specs.Reach.{box_round, common, is_at_most, is_crossed, reaches}
use Rattle.shape_rays.proofs.PartLemmas.{max_is, min_is}
use Rattle.shape_rays.proofs.RingLemmas.{Num, Add, Sub, Mul, ring}
use Rattle.shape_rays.proofs.SignLemmas.{times, sum}

-- ---- tests and what they say

le_from : (a b : ℤ) → int_le a b ≡ true → a ≤ℤ b
le_from a b h = grind (arith, ints)

le_to : (a b : ℤ) → a ≤ℤ b → int_le a b ≡ true
le_to a b h = grind (arith, ints)

both_parts : (s t : Bool) → (s && t) ≡ true → (s ≡ true) × (t ≡ true)
both_parts true t h = (refl, h)
both_parts false t h = cc

both_true : (s t : Bool) → s ≡ true → t ≡ true → (s && t) ≡ true
both_true true t h k = k
both_true false t h k = cc

pub overlaps_from : (a b : Box2) → overlaps a b ≡ true → Overlaps a b
unfolding spans_meet
overlaps_from a b h =
    let p = both_parts (int_le a.lo.x b.hi.x && int_le b.lo.x a.hi.x) (int_le a.lo.y b.hi.y && int_le b.lo.y a.hi.y) h in
    let x = both_parts (int_le a.lo.x b.hi.x) (int_le b.lo.x a.hi.x) p.0 in
    let y = both_parts (int_le a.lo.y b.hi.y) (int_le b.lo.y a.hi.y) p.1 in
    record { left = le_from _ _ x.0; right = le_from _ _ x.1; down = le_from _ _ y.0; up = le_from _ _ y.1 }

pub overlaps_to : (a b : Box2) → Overlaps a b → overlaps a b ≡ true
unfolding spans_meet
overlaps_to a b h =
    both_true (int_le a.lo.x b.hi.x && int_le b.lo.x a.hi.x) (int_le a.lo.y b.hi.y && int_le b.lo.y a.hi.y)
    (both_true (int_le a.lo.x b.hi.x) (int_le b.lo.x a.hi.x) (le_to _ _ h.left) (le_to _ _ h.right))
    (both_true (int_le a.lo.y b.hi.y) (int_le b.lo.y a.hi.y) (le_to _ _ h.down) (le_to _ _ h.up))

pub record IsAtMost (m h : ℤ) : Type 0 where
  pub above : pos 0 ≤ℤ (h +ℤ m)
  pub below : pos 0 ≤ℤ (h -ℤ m)

at_most_from : (m h : ℤ) → is_at_most m h ≡ true → IsAtMost m h
at_most_from m h e = record { above = grind (arith, ints, nat_tests); below = grind (arith, ints, nat_tests) }

at_most_to : (m h : ℤ) → IsAtMost m h → is_at_most m h ≡ true
at_most_to m h k =
    let above : neg_ℤ h ≤ℤ m = omega (arith, ints, k.above) in
    let below : m ≤ℤ h = omega (arith, ints, k.below) in
    grind (arith, ints, nat_tests)

-- ---- how far a box reaches to the two sides of a line, on one axis

abbrev pub upward : ℤ → ℤ → ℤ → ℤ
upward l h k = (h -ℤ l +ℤ pos 128) *ℤ pos (unsigned_abs k) +ℤ (l +ℤ h) *ℤ k

abbrev pub downward : ℤ → ℤ → ℤ → ℤ
downward l h k = (h -ℤ l +ℤ pos 128) *ℤ pos (unsigned_abs k) -ℤ (l +ℤ h) *ℤ k

pub record IsWide (low high f : Vec2) : Type 0 where
  pub above : pos 0 ≤ℤ (upward low.x high.x f.y +ℤ downward low.y high.y f.x)
  pub below : pos 0 ≤ℤ (downward low.x high.x f.y +ℤ upward low.y high.y f.x)

to_above : (a b c d : ℤ) → (a +ℤ c) +ℤ (b -ℤ d) ≡ (a +ℤ b) +ℤ (c -ℤ d)
to_above a b c d = omega (arith, ints)

to_below : (a b c d : ℤ) → (a -ℤ c) +ℤ (b +ℤ d) ≡ (a +ℤ b) -ℤ (c -ℤ d)
to_below a b c d = omega (arith, ints)

abbrev first_half : Vec2 → Vec2 → Vec2 → ℤ
first_half low high f = (high.x -ℤ low.x +ℤ pos 128) *ℤ pos (unsigned_abs f.y)

abbrev second_half : Vec2 → Vec2 → Vec2 → ℤ
second_half low high f = (high.y -ℤ low.y +ℤ pos 128) *ℤ pos (unsigned_abs f.x)

wide_from : (low high f : Vec2) → is_crossed f low high ≡ true → IsWide low high f
unfolding dot cross
wide_from low high f h =
    let a = first_half low high f in
    let b = second_half low high f in
    let c = (low.x +ℤ high.x) *ℤ f.y in
    let d = (low.y +ℤ high.y) *ℤ f.x in
    let k = at_most_from (c -ℤ d) (a +ℤ b) h in
    record { above = subst (λ (z : ℤ). pos 0 ≤ℤ z) (sym (to_above a b c d)) k.above; below = subst (λ (z : ℤ). pos 0 ≤ℤ z) (sym (to_below a b c d)) k.below }

pub wide_to : (low high f : Vec2) → IsWide low high f → is_crossed f low high ≡ true
unfolding dot cross
wide_to low high f h =
    let a = first_half low high f in
    let b = second_half low high f in
    let c = (low.x +ℤ high.x) *ℤ f.y in
    let d = (low.y +ℤ high.y) *ℤ f.x in
    at_most_to (c -ℤ d) (a +ℤ b) (record { above = subst (λ (z : ℤ). pos 0 ≤ℤ z) (to_above a b c d) h.above; below = subst (λ (z : ℤ). pos 0 ≤ℤ z) (to_below a b c d) h.below })

-- ---- a wider box

abs_over : (k : ℤ) → pos 0 ≤ℤ (pos (unsigned_abs k) +ℤ k)
abs_over k = omega (arith, ints)

abs_under : (k : ℤ) → pos 0 ≤ℤ (pos (unsigned_abs k) -ℤ k)
abs_under k = omega (arith, ints)

upward_more : (l h l' h' m k : ℤ) → ((h' -ℤ l' +ℤ pos 128) *ℤ m +ℤ (l' +ℤ h') *ℤ k) ≡ ((h -ℤ l +ℤ pos 128) *ℤ m +ℤ (l +ℤ h) *ℤ k) +ℤ ((h' -ℤ h) *ℤ (m +ℤ k) +ℤ (l -ℤ l') *ℤ (m -ℤ k))
upward_more l h l' h' m k =
    let M = Num m in
    let K = Num k in
    ring (Add (Mul (Add (Sub (Num h') (Num l')) (Num (pos 128))) M) (Mul (Add (Num l') (Num h')) K))
    (Add (Add (Mul (Add (Sub (Num h) (Num l)) (Num (pos 128))) M) (Mul (Add (Num l) (Num h)) K)) (Add (Mul (Sub (Num h') (Num h)) (Add M K)) (Mul (Sub (Num l) (Num l')) (Sub M K)))) (omega arith)

downward_more : (l h l' h' m k : ℤ) → ((h' -ℤ l' +ℤ pos 128) *ℤ m -ℤ (l' +ℤ h') *ℤ k) ≡ ((h -ℤ l +ℤ pos 128) *ℤ m -ℤ (l +ℤ h) *ℤ k) +ℤ ((h' -ℤ h) *ℤ (m -ℤ k) +ℤ (l -ℤ l') *ℤ (m +ℤ k))
downward_more l h l' h' m k =
    let M = Num m in
    let K = Num k in
    ring (Sub (Mul (Add (Sub (Num h') (Num l')) (Num (pos 128))) M) (Mul (Add (Num l') (Num h')) K))
    (Add (Sub (Mul (Add (Sub (Num h) (Num l)) (Num (pos 128))) M) (Mul (Add (Num l) (Num h)) K)) (Add (Mul (Sub (Num h') (Num h)) (Sub M K)) (Mul (Sub (Num l) (Num l')) (Add M K)))) (omega arith)

not_negative : (x y : ℤ) → x ≤ℤ y → pos 0 ≤ℤ (y -ℤ x)
not_negative x y h = omega (arith, ints, h)

more_from : (x y z : ℤ) → x ≡ y +ℤ z → pos 0 ≤ℤ z → y ≤ℤ x
more_from x y z e h = omega (arith, ints, h, e)

upward_le : (l h l' h' k : ℤ) → l' ≤ℤ l → h ≤ℤ h' → upward l h k ≤ℤ upward l' h' k
upward_le l h l' h' k a b = more_from _ _ _ (upward_more l h l' h' (pos (unsigned_abs k)) k)
    (sum _ _ (times (h' -ℤ h) (pos (unsigned_abs k) +ℤ k) (not_negative h h' b) (abs_over k)) (times (l -ℤ l') (pos (unsigned_abs k) -ℤ k) (not_negative l' l a) (abs_under k)))

downward_le : (l h l' h' k : ℤ) → l' ≤ℤ l → h ≤ℤ h' → downward l h k ≤ℤ downward l' h' k
downward_le l h l' h' k a b = more_from _ _ _ (downward_more l h l' h' (pos (unsigned_abs k)) k)
    (sum _ _ (times (h' -ℤ h) (pos (unsigned_abs k) -ℤ k) (not_negative h h' b) (abs_under k)) (times (l -ℤ l') (pos (unsigned_abs k) +ℤ k) (not_negative l' l a) (abs_over k)))

sum_more : (a b c d : ℤ) → pos 0 ≤ℤ (a +ℤ b) → a ≤ℤ c → b ≤ℤ d → pos 0 ≤ℤ (c +ℤ d)
sum_more a b c d h k l = omega (arith, ints, h, k, l)

wider : (low high low' high' f : Vec2) → low'.x ≤ℤ low.x → high.x ≤ℤ high'.x → low'.y ≤ℤ low.y → high.y ≤ℤ high'.y → IsWide low high f → IsWide low' high' f
wider low high low' high' f a b c d h = record {
  above = sum_more _ _ _ _ h.above (upward_le low.x high.x low'.x high'.x f.y a b) (downward_le low.y high.y low'.y high'.y f.x c d);
  below = sum_more _ _ _ _ h.below (downward_le low.x high.x low'.x high'.x f.y a b) (upward_le low.y high.y low'.y high'.y f.x c d);
}

-- ---- each box that holds one that is reached

max_less : (x y z o : ℤ) → x ≤ℤ y → (int_max x z -ℤ o) ≤ℤ (int_max y z -ℤ o)
max_less x y z o h = let a = max_is x z in let b = max_is y z in omega (arith, ints, h, a.one, b.first, b.second)

min_more : (x y z o : ℤ) → x ≤ℤ y → (int_min x z -ℤ o) ≤ℤ (int_min y z -ℤ o)
min_more x y z o h = let a = min_is x z in let b = min_is y z in omega (arith, ints, h, b.one, a.first, a.second)

pub record IsReached (r : Beam) (b : Box2) : Type 0 where
  pub over : Overlaps b (box_round r)
  pub crossed : is_crossed r.along (minus (common b (box_round r)).lo r.from) (minus (common b (box_round r)).hi r.from) ≡ true

if_both : (s t : Bool) → cond s t false ≡ true → (s ≡ true) × (t ≡ true)
if_both true t h = (refl, h)
if_both false t h = absurd (false≢true h)

both_if : (s t : Bool) → s ≡ true → t ≡ true → cond s t false ≡ true
both_if true t h k = k
both_if false t h k = absurd (false≢true h)

reached_from : (r : Beam) (b : Box2) → reaches r b ≡ true → IsReached r b
unfolding reaches
reached_from r b h = let p = if_both (overlaps b (box_round r)) _ h in record { over = overlaps_from b (box_round r) p.0; crossed = p.1 }

pub reached_to : (r : Beam) (b : Box2) → IsReached r b → reaches r b ≡ true
unfolding reaches
reached_to r b h = both_if (overlaps b (box_round r)) _ (overlaps_to b (box_round r) h.over) h.crossed

le_both : (a b c : ℤ) → a ≤ℤ b → b ≤ℤ c → a ≤ℤ c
le_both a b c h k = omega (arith, ints, h, k)

pub reached_wider : (r : Beam) (outer inner : Box2) → Contains outer inner → reaches r inner ≡ true → reaches r outer ≡ true
reached_wider r outer inner h e =
    let a = box_round r in
    let k = reached_from r inner e in
    let low = minus (common inner a).lo r.from in
    let high = minus (common inner a).hi r.from in
    let low' = minus (common outer a).lo r.from in
    let high' = minus (common outer a).hi r.from in
    reached_to r outer (record {
      over = record { left = le_both _ _ _ h.left k.over.left; right = le_both _ _ _ k.over.right h.right; down = le_both _ _ _ h.down k.over.down; up = le_both _ _ _ k.over.up h.up };
      crossed = wide_to low' high' r.along (wider low high low' high' r.along
          (max_less outer.lo.x inner.lo.x a.lo.x r.from.x h.left) (min_more inner.hi.x outer.hi.x a.hi.x r.from.x h.right)
          (max_less outer.lo.y inner.lo.y a.lo.y r.from.y h.down) (min_more inner.hi.y outer.hi.y a.hi.y r.from.y h.up) (wide_from low high r.along k.crossed));
    })

not_if : (s t : Bool) → (s ≡ true → t ≡ true) → t ≡ false → s ≡ false
not_if false t f e = refl
not_if true t f e = absurd (false≢true (sym e ∙ f refl))

pub missed_within : (r : Beam) (outer inner : Box2) → Contains outer inner → reaches r outer ≡ false → reaches r inner ≡ false
missed_within r outer inner h e = not_if (reaches r inner) (reaches r outer) (reached_wider r outer inner h) e
