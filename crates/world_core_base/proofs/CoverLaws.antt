-- Boxes by slot that hold the fat boxes of bodies.
use Rattle.std.proofs.Common.{◌≡◌, ◌≢◌, ◌⊎◌, inl, inr, ℕ, zero, suc, ◌+◌, ◌<◌, ◌≤◌, Bool, true, false, cond, List, [], ◌∷◌, ◌++◌, length, nat_lt, get_or, slice_set, Option, Some, None, Result, Ok, Err, is_some, refl, sym, ap, subst, ◌∙◌, arith, true≢false}
use Rattle.std.specs.Prelude.{◌==◌, OnErr, OnOk, option_map, slice_index_or}
use Rattle.std.specs.List.{AllWithin}
use Rattle.std.proofs.lemmas.Bool.{ltb-false}
use Rattle.std.proofs.lemmas.Bool.Decides.{eqb_tells}
use Rattle.std.proofs.lemmas.Int.{ints}
use Rattle.std.proofs.lemmas.List.{get_or_default, length-append, length-set}
use Rattle.fixed_geom.specs.Boxes.{Contains}
use Rattle.fixed_geom.specs.declared.boxes.Box2.{Box2}
use Rattle.box_tree.specs.BoxLists.{box_at}
use Rattle.plain_world.specs.declared.body.Body.{Body}
use Rattle.plain_world.specs.Slots.{body_at, with_body}
use Rattle.world_core_base.specs.Covers.{AreCovered, AreOtherBoxes, HoldsAll, IsCover, IsCovered}
use Rattle.world_core_base.specs.Marked.{AreMarkedIn, AreShownAlike}
use Rattle.world_core_base.proofs.MarkedLaws.{get_body}

-- ---- a box round all

contains_both : (outer middle inner : Box2) → Contains outer middle → Contains middle inner → Contains outer inner
contains_both outer middle inner h k = record { left = omega (arith, ints, h.left, k.left); right = omega (arith, ints, h.right, k.right); down = omega (arith, ints, h.down, k.down); up = omega (arith, ints, h.up, k.up) }

pub hull_next : (hull next : Box2) (fats : List Box2) (i : ℕ) (e : Box2) → i < length fats → AllWithin (λ fat. Contains hull fat) fats 0 i → Contains next hull → Contains next (get_or fats i e) → AllWithin (λ fat. Contains next fat) fats 0 (i + 1)
hull_next hull next fats i e there all round last k d lo hi = by (eqb_tells k i)
  where
    by : (((k == i) ≡ true) × (k ≡ i)) ⊎ (((k == i) ≡ false) × (k ≢ i)) → Contains next (slice_index_or fats k d)
    by (inl f) = subst (λ (n : ℕ). Contains next (get_or fats n d)) (sym f.1) (subst (λ (b : Box2). Contains next b) (get_or_default fats i e d there) last)
    by (inr f) = let other : k ≢ i = f.1 in contains_both next hull (slice_index_or fats k d) round (all k d lo (omega (arith, hi, other)))

-- ---- boxes by slot

pub box-set_same : (boxes : List (Option Box2)) (slot : ℕ) (o : Option Box2) → slot < length boxes → box_at (slice_set boxes slot o) slot ≡ o
box-set_same [] slot o lt = absurd (omega (arith, lt))
box-set_same (b ∷ boxes) zero o lt = refl
box-set_same (b ∷ boxes) (suc slot) o lt = box-set_same boxes slot o (omega (arith, lt))

pub box-set_other : (boxes : List (Option Box2)) (slot : ℕ) (o : Option Box2) (s : ℕ) → s ≢ slot → box_at (slice_set boxes slot o) s ≡ box_at boxes s
box-set_other [] slot o s other = refl
box-set_other (b ∷ boxes) zero o zero other = absurd (other refl)
box-set_other (b ∷ boxes) zero o (suc s) other = refl
box-set_other (b ∷ boxes) (suc slot) o zero other = refl
box-set_other (b ∷ boxes) (suc slot) o (suc s) other = box-set_other boxes slot o s (λ e. other (ap suc e))

pub box-grown : (boxes : List (Option Box2)) (s : ℕ) → box_at (boxes ++ None ∷ []) s ≡ box_at boxes s
box-grown [] zero = refl
box-grown [] (suc s) = refl
box-grown (b ∷ boxes) zero = refl
box-grown (b ∷ boxes) (suc s) = box-grown boxes s

pub box_within : (boxes : List (Option Box2)) (slot : ℕ) → is_some (box_at boxes slot) ≡ true → slot < length boxes
box_within [] slot e = absurd (true≢false (sym e))
box_within (b ∷ boxes) zero e = omega arith
box_within (b ∷ boxes) (suc slot) e = let rest : slot < length boxes = box_within boxes slot e in omega (arith, rest)

pub other_boxes-same : (boxes : List (Option Box2)) (slot : ℕ) → AreOtherBoxes slot boxes boxes
other_boxes-same boxes slot = record { others = λ s other. refl }

pub cover_there : (o : Option Box2) (fats : List Box2) → IsCover o fats → is_some o ≡ true
cover_there None fats h = absurd h
cover_there (Some b) fats h = refl

pub box_there : (o : Option Box2) (p : Option Body) → IsCovered o p → is_some p ≡ true → is_some o ≡ true
box_there o None h e = absurd (true≢false (sym e))
box_there o (Some b) h e = cover_there o b.fats h

pub cover_put : (boxes now : List (Option Box2)) (slot : ℕ) (hull : Box2) (fats : List Box2) → slot < length boxes → now ≡ slice_set boxes slot (Some hull) → HoldsAll hull fats → IsCover (box_at now slot) fats
cover_put boxes now slot hull fats lt e holds = subst (λ (o : Option Box2). IsCover o fats) (sym (ap (λ (l : List (Option Box2)). box_at l slot) e ∙ box-set_same boxes slot (Some hull) lt)) holds

-- at first more slots are allowed, and then one has another box
pub other_put : (boxes more now : List (Option Box2)) (slot : ℕ) (o : Option Box2) → ((s : ℕ) → box_at more s ≡ box_at boxes s) → now ≡ slice_set more slot o → AreOtherBoxes slot boxes now
other_put boxes more now slot o same e = record { others = λ s other. ap (λ (l : List (Option Box2)). box_at l s) e ∙ box-set_other more slot o s other ∙ same s }

pub other_kept : (boxes more now : List (Option Box2)) (slot : ℕ) → ((s : ℕ) → box_at more s ≡ box_at boxes s) → now ≡ more → AreOtherBoxes slot boxes now
other_kept boxes more now slot same e = record { others = λ s other. ap (λ (l : List (Option Box2)). box_at l s) e ∙ same s }

pub grown_same : (boxes now : List (Option Box2)) → now ≡ boxes ++ None ∷ [] → (s : ℕ) → box_at now s ≡ box_at boxes s
grown_same boxes now e s = ap (λ (l : List (Option Box2)). box_at l s) e ∙ box-grown boxes s

pub kept_same : (boxes now : List (Option Box2)) → now ≡ boxes → (s : ℕ) → box_at now s ≡ box_at boxes s
kept_same boxes now e s = ap (λ (l : List (Option Box2)). box_at l s) e

-- what follows of both outcomes, and what follows of one
pub either_way : {A E : Type 0} (P Q R : Type 0) (r : Result A E) → (Q → P) → (R → P) → OnOk r Q → OnErr r R → P
either_way P Q R (Ok a) f g h k = f h
either_way P Q R (Err e) f g h k = g k

pub ok_then : {A E : Type 0} (P Q : Type 0) (r : Result A E) → (Q → P) → OnOk r Q → OnOk r P
ok_then P Q (Ok a) f h = f h
ok_then P Q (Err e) f h = tt

-- ---- bodies and boxes of which one slot changes

pub covered_set : (bodies : List (Option Body)) (boxes now : List (Option Box2)) (slot : ℕ) (o : Option Body) → AreCovered bodies boxes → AreOtherBoxes slot boxes now → IsCovered (box_at now slot) o → AreCovered (slice_set bodies slot o) now
covered_set bodies boxes now slot o all others here s = by (eqb_tells s slot)
  where
    alone : (os : List (Option Body)) (n m : ℕ) (c : Option Box2) → n ≡ m → IsCovered c o → IsCovered c (body_at (slice_set os m o) n)
    alone [] n m c e h = tt
    alone (p ∷ os) zero zero c e h = h
    alone (p ∷ os) zero (suc m) c e h = absurd (omega (arith, e))
    alone (p ∷ os) (suc n) zero c e h = absurd (omega (arith, e))
    alone (p ∷ os) (suc n) (suc m) c e h = alone os n m c (omega (arith, e)) h

    beside : (os : List (Option Body)) (n m : ℕ) (c : Option Box2) → n ≢ m → IsCovered c (body_at os n) → IsCovered c (body_at (slice_set os m o) n)
    beside [] n m c e h = h
    beside (p ∷ os) zero zero c e h = absurd (e refl)
    beside (p ∷ os) zero (suc m) c e h = h
    beside (p ∷ os) (suc n) zero c e h = h
    beside (p ∷ os) (suc n) (suc m) c e h = beside os n m c (λ f. e (ap suc f)) h

    by : (((s == slot) ≡ true) × (s ≡ slot)) ⊎ (((s == slot) ≡ false) × (s ≢ slot)) → IsCovered (box_at now s) (body_at (slice_set bodies slot o) s)
    by (inl e) = alone bodies s slot (box_at now s) e.1 (subst (λ (n : ℕ). IsCovered (box_at now n) o) (sym e.1) here)
    by (inr e) = beside bodies s slot (box_at now s) e.1 (subst (λ (c : Option Box2). IsCovered c (body_at bodies s)) (sym (others.others s e.1)) (all s))

covered_end : (bodies : List (Option Body)) (boxes : List (Option Box2)) (slot : ℕ) (b : Body) → slot ≡ length bodies → AreCovered bodies boxes → IsCover (box_at boxes slot) b.fats → AreCovered (bodies ++ Some b ∷ []) boxes
covered_end bodies boxes slot b end all here s = by bodies s slot (box_at boxes s) end (all s) (λ e. subst (λ (n : ℕ). IsCover (box_at boxes n) b.fats) (sym e) here)
  where
    by : (os : List (Option Body)) (n m : ℕ) (c : Option Box2) → m ≡ length os → IsCovered c (body_at os n) → (n ≡ m → IsCover c b.fats) → IsCovered c (body_at (os ++ Some b ∷ []) n)
    by [] zero m c e h k = k (omega (arith, e))
    by [] (suc n) m c e h k = tt
    by (p ∷ os) zero m c e h k = h
    by (p ∷ os) (suc n) zero c e h k = absurd (omega (arith, e))
    by (p ∷ os) (suc n) (suc m) c e h k = by os n m c (omega (arith, e)) h (λ f. k (ap suc f))

-- a body put into a slot whose box holds its fat boxes
pub covered_put : (bodies : List (Option Body)) (boxes : List (Option Box2)) (slot : ℕ) (b : Body) → slot ≤ length bodies → AreCovered bodies boxes → IsCover (box_at boxes slot) b.fats → AreCovered (with_body bodies slot b) boxes
covered_put bodies boxes slot b next all here = by (nat_lt slot (length bodies)) (λ e. ltb-false slot (length bodies) e)
  where
    by : (t : Bool) → (t ≡ false → length bodies ≤ slot) → AreCovered (cond t (slice_set bodies slot (Some b)) (bodies ++ Some b ∷ [])) boxes
    by true h = covered_set bodies boxes boxes slot (Some b) all (other_boxes-same boxes slot) here
    by false h = let past : length bodies ≤ slot = h refl in covered_end bodies boxes slot b (omega (arith, past, next)) all here

-- ---- bodies that show the same shapes

alike_covered : (c : Option Box2) (o p : Option Body) → AreShownAlike o p → IsCovered c o → IsCovered c p
alike_covered c None None h k = tt
alike_covered c None (Some q) h k = absurd h
alike_covered c (Some b) None h k = absurd h
alike_covered c (Some b) (Some q) h k = subst (λ (fats : List Box2). IsCover c fats) h.fats k

pub covered_alike : (bodies later : List (Option Body)) (boxes : List (Option Box2)) → ((slot : ℕ) → AreShownAlike (body_at bodies slot) (body_at later slot)) → AreCovered bodies boxes → AreCovered later boxes
covered_alike bodies later boxes alike all slot = alike_covered (box_at boxes slot) (body_at bodies slot) (body_at later slot) (alike slot) (all slot)

-- the box of a slot is made anew where its body shows other shapes
pub covered_if : (bodies : List (Option Body)) (boxes now : List (Option Box2)) (slot : ℕ) (o : Option Body) (made : Bool) → AreCovered bodies boxes → AreOtherBoxes slot boxes now → (made ≡ true → IsCovered (box_at now slot) o) → (made ≡ false → now ≡ boxes) → (made ≡ false → AreShownAlike (body_at bodies slot) o)
    → AreCovered (slice_set bodies slot o) now
covered_if bodies boxes now slot o true all others here same alike = covered_set bodies boxes now slot o all others (here refl)
covered_if bodies boxes now slot o false all others here same alike =
    let stays : now ≡ boxes = same refl in
    covered_set bodies boxes now slot o all others (alike_covered (box_at now slot) (body_at bodies slot) o (alike refl) (subst (λ (l : List (Option Box2)). IsCovered (box_at l slot) (body_at bodies slot)) (sym stays) (all slot)))

-- ---- all bodies from a list

pub record AreCoveredBelow (bodies : List (Option Body)) (boxes : List (Option Box2)) (n : ℕ) : Type 0 where
  pub below : (slot : ℕ) → slot < n → IsCovered (box_at boxes slot) (body_at bodies slot)
  pub room : n ≤ length boxes

-- ---- what a table's methods leave

pub mapped_covered : (f : Body → Body) (c : Option Box2) (o : Option Body) → ((b : Body) → (f b).fats ≡ b.fats) → IsCovered c o → IsCovered c (option_map f o)
mapped_covered f c None same h = tt
mapped_covered f c (Some b) same h = subst (λ (fats : List Box2). IsCover c fats) (sym (same b)) h

-- a change of the body in a slot that leaves its fat boxes
pub covered_mapped : (f : Body → Body) (bodies : List (Option Body)) (boxes : List (Option Box2)) (slot : ℕ) → ((b : Body) → (f b).fats ≡ b.fats) → AreCovered bodies boxes → AreCovered (slice_set bodies slot (option_map f (body_at bodies slot))) boxes
covered_mapped f bodies boxes slot same all = covered_set bodies boxes boxes slot (option_map f (body_at bodies slot)) all (other_boxes-same boxes slot) (mapped_covered f (box_at boxes slot) (body_at bodies slot) same (all slot))

pub covered_eq : (bodies later : List (Option Body)) (boxes now : List (Option Box2)) → later ≡ bodies → now ≡ boxes → AreCovered bodies boxes → AreCovered later now
covered_eq bodies later boxes now e f all = subst (λ (l : List (Option Body)). AreCovered l now) (sym e) (subst (λ (l : List (Option Box2)). AreCovered bodies l) (sym f) all)

-- there are boxes for all bodies and for the slot
pub long_put : (bodies : List (Option Body)) (slot : ℕ) (b : Body) (n : ℕ) → slot < n → length bodies ≤ n → slot ≤ length bodies → length (with_body bodies slot b) ≤ n
long_put bodies slot b n there room next = by (nat_lt slot (length bodies)) (λ e. ltb-false slot (length bodies) e)
  where
    by : (t : Bool) → (t ≡ false → length bodies ≤ slot) → length (cond t (slice_set bodies slot (Some b)) (bodies ++ Some b ∷ [])) ≤ n
    by true h = let long = length-set bodies slot (Some b) in omega (arith, long, room)
    by false h = let past : length bodies ≤ slot = h refl in let long = length-append bodies (Some b ∷ []) in omega (arith, long, there, past, next)

-- ---- a loop that moves bodies, marks, and gives slots other boxes

pub record HasMarked (moved : Type 0) (bodies : List (Option Body)) (marks : List Bool) (boxes : List (Option Box2)) (later : List (Option Body)) (now : List Bool) (boxes_now : List (Option Box2)) : Type 0 where
  pub moved_so_far : moved
  pub marked : AreMarkedIn bodies marks later now
  pub long : length now ≡ length marks
  pub covered : AreCovered later boxes_now
  pub boxes_long : length boxes_now ≡ length boxes

-- the box of the slot is made anew where its body shows other shapes, with what was in the slot before
pub covered_slot : (bodies : List (Option Body)) (boxes now : List (Option Box2)) (slot : ℕ) (before after : Option Body) (made : Bool) → AreCovered bodies boxes → get_or bodies slot None ≡ before → AreOtherBoxes slot boxes now → (made ≡ true → IsCovered (box_at now slot) after) → (made ≡ false → now ≡ boxes)
    → (made ≡ false → AreShownAlike before after) → AreCovered (slice_set bodies slot after) now
covered_slot bodies boxes now slot before after made all e others here same alike = covered_if bodies boxes now slot after made all others here same (λ off. subst (λ (o : Option Body). AreShownAlike o after) (sym e ∙ get_body bodies slot) (alike off))

pub there_mapped : (f : Body → Body) (o : Option Body) → is_some (option_map f o) ≡ is_some o
there_mapped f None = refl
there_mapped f (Some b) = refl
