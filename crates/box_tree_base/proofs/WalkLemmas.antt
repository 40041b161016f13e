-- A walk may leave out what lies in a box that it doesn't meet.
use Rattle.std.proofs.Common.{◌≡◌, ℕ, Bool, true, false, cond, ◌&&◌, List, [], ◌∷◌, ◌++◌, Option, None, refl, ap, sym, ◌∙◌, arith, ℤ, ◌≤ℤ◌}
use Rattle.std.specs.Prelude.{int_le}
use Rattle.std.proofs.lemmas.Int.{ints}
use Rattle.std.proofs.lemmas.List.{append_assoc, append-nil}
use Rattle.fixed_geom.specs.Boxes.{Contains, spans_meet, overlaps}
use Rattle.fixed_geom.specs.declared.boxes.Box2.{Box2}
use Rattle.box_tree_base.specs.Joins.{IsBounded}
use Rattle.box_tree_base.specs.Lists.{Each}
use Rattle.box_tree_base.specs.Queries.{keys_over}
use Rattle.box_tree_base.specs.Rays.{first_among, nearer, IsHitWithin}
use Rattle.box_tree_base.specs.declared.leaves.Leaf.{Leaf}
use Rattle.box_tree_base.specs.declared.rays.Hit.{Hit}

le_from : (a b : ℤ) → int_le a b ≡ true → a ≤ℤ b
le_from a b h = grind (arith, ints)

le_to : (a b : ℤ) → a ≤ℤ b → int_le a b ≡ true
le_to a b h = grind (arith, ints)

both_parts : (s t : Bool) → (s && t) ≡ true → (s ≡ true) × (t ≡ true)
both_parts true t h = (refl, h)
both_parts false t h = cc

both_true : (s t : Bool) → s ≡ true → t ≡ true → (s && t) ≡ true
both_true true t h k = k
both_true false t h k = cc

meets_wider : (lo hi lo' hi' low high : ℤ) → lo' ≤ℤ lo → hi ≤ℤ hi' → spans_meet lo hi low high ≡ true → spans_meet lo' hi' low high ≡ true
unfolding spans_meet
meets_wider lo hi lo' hi' low high h k e =
    let p = both_parts (int_le lo high) (int_le low hi) e in
    let q : lo ≤ℤ high = le_from lo high p.0 in
    let r : low ≤ℤ hi = le_from low hi p.1 in
    both_true (int_le lo' high) (int_le low hi') (le_to lo' high (omega (arith, ints))) (le_to low hi' (omega (arith, ints)))

overlaps_wider : (outer inner q : Box2) → Contains outer inner → overlaps inner q ≡ true → overlaps outer q ≡ true
overlaps_wider outer inner q h e =
    let p = both_parts (spans_meet inner.lo.x inner.hi.x q.lo.x q.hi.x) (spans_meet inner.lo.y inner.hi.y q.lo.y q.hi.y) e in
    both_true _ _ (meets_wider _ _ _ _ _ _ h.left h.right p.0) (meets_wider _ _ _ _ _ _ h.down h.up p.1)

not_if : (s t : Bool) → (s ≡ true → t ≡ true) → t ≡ false → s ≡ false
not_if false t f e = refl
not_if true t f e = let k : t ≡ true = f refl in cc

pub overlaps_within : (outer inner q : Box2) → Contains outer inner → overlaps outer q ≡ false → overlaps inner q ≡ false
overlaps_within outer inner q h e = not_if (overlaps inner q) (overlaps outer q) (overlaps_wider outer inner q h) e

keys_step : (t : Bool) (k : ℕ) (us vs ws : List ℕ) → us ≡ vs ++ ws → cond t (k ∷ us) us ≡ cond t (k ∷ vs) vs ++ ws
keys_step true k us vs ws h = ap (λ l. k ∷ l) h
keys_step false k us vs ws h = h

pub keys_over-append : (b : Box2) (xs ys : List Leaf) → keys_over b (xs ++ ys) ≡ keys_over b xs ++ keys_over b ys
keys_over-append b [] ys = refl
keys_over-append b (x ∷ xs) ys = keys_step (overlaps x.bounds b) x.key _ _ _ (keys_over-append b xs ys)

none_step : (t : Bool) (k : ℕ) (us : List ℕ) → t ≡ false → us ≡ [] → cond t (k ∷ us) us ≡ []
none_step true k us e h = cc
none_step false k us e h = h

pub keys_over_none : (b q : Box2) (leaves : List Leaf) → Each (IsBounded b) leaves → overlaps b q ≡ false → keys_over q leaves ≡ []
keys_over_none b q [] a h = refl
keys_over_none b q (leaf ∷ leaves) a h = none_step (overlaps leaf.bounds q) leaf.key _ (overlaps_within b leaf.bounds q a.0 h) (keys_over_none b q leaves a.1 h)

pub first_among-append : (hit : ℕ → Option ℕ) (xs ys : List Leaf) (best : Option Hit) → first_among hit (xs ++ ys) best ≡ first_among hit ys (first_among hit xs best)
first_among-append hit [] ys best = refl
first_among-append hit (x ∷ xs) ys best = first_among-append hit xs ys (nearer best x.key (hit x.key))

pub first_among_missed : (reaches : Box2 → Bool) (hit : ℕ → Option ℕ) (b : Box2) (leaves : List Leaf) (best : Option Hit) → ((outer inner : Box2) → Contains outer inner → reaches outer ≡ false → reaches inner ≡ false) → Each (IsBounded b) leaves → Each (IsHitWithin reaches hit) leaves → reaches b ≡ false → first_among hit leaves best ≡ best
first_among_missed reaches hit b [] best law a m h = refl
first_among_missed reaches hit b (leaf ∷ leaves) best law a m h =
    let none : hit leaf.key ≡ None = m.0 (law b leaf.bounds a.0 h) in
    ap (λ o. first_among hit leaves (nearer best leaf.key o)) none ∙ first_among_missed reaches hit b leaves best law a.1 m.1 h

-- ---- one side of a fork after the other

-- a side whose box is apart from q adds nothing
pub none_added : (b q : Box2) (leaves : List Leaf) (found : List ℕ) → Each (IsBounded b) leaves → overlaps b q ≡ false → found ≡ found ++ keys_over q leaves
none_added b q leaves found a h = sym (ap (λ l. found ++ l) (keys_over_none b q leaves a h) ∙ append-nil found)

pub both_added : (q : Box2) (left right all : List Leaf) (old middle new : List ℕ) → all ≡ left ++ right → middle ≡ old ++ keys_over q left → new ≡ middle ++ keys_over q right → new ≡ old ++ keys_over q all
both_added q left right all old middle new is first second =
    second
    ∙ ap (λ l. l ++ keys_over q right) first
    ∙ append_assoc old (keys_over q left) (keys_over q right)
    ∙ ap (λ l. old ++ l) (sym (keys_over-append q left right))
    ∙ ap (λ l. old ++ keys_over q l) (sym is)

pub first_of_both : (hit : ℕ → Option ℕ) (left right all : List Leaf) (old middle new : Option Hit) → all ≡ left ++ right → middle ≡ first_among hit left old → new ≡ first_among hit right middle → new ≡ first_among hit all old
first_of_both hit left right all old middle new is first second =
    second
    ∙ ap (first_among hit right) first
    ∙ sym (first_among-append hit left right old)
    ∙ ap (λ l. first_among hit l old) (sym is)

-- a side whose box the ray doesn't reach has no hit
pub none_nearer : (reaches : Box2 → Bool) (hit : ℕ → Option ℕ) (b : Box2) (leaves : List Leaf) (best : Option Hit) → ((outer inner : Box2) → Contains outer inner → reaches outer ≡ false → reaches inner ≡ false) → Each (IsBounded b) leaves → Each (IsHitWithin reaches hit) leaves → false ≡ reaches b → best ≡ first_among hit leaves best
none_nearer reaches hit b leaves best law a m e = sym (first_among_missed reaches hit b leaves best law a m (sym e))
