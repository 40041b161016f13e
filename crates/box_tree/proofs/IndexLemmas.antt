-- The tree, the entries and the boxes keep together.
use Rattle.std.proofs.Common.{◌≡◌, ◌≢◌, ℕ, zero, suc, ◌+◌, ◌<◌, ◌≤◌, ◌%◌, Bool, true, false, cond, eqb, List, [], ◌∷◌, ◌++◌, length, filter, Option, Some, None, is_some, inl, inr, refl, ap, sym, ◌∙◌, subst, arith, get_or}
use Rattle.std.specs.Prelude.{slice_set, slice_index_or}
use Rattle.std.proofs.lemmas.List.{length-append}
use Rattle.fixed_geom.specs.Boxes.{overlaps, Contains}
use Rattle.box_tree_base.specs.Lists.{Each, IsIn, IsAdded}
use Rattle.box_tree_base.specs.Trees.{IsOther}
use Rattle.box_tree_base.specs.Roots.{IsMoved}
use Rattle.box_tree.specs.Tables.{loose_keys, keys_of, entry_at, entry_of, leaf_of, IsKept}
use Rattle.std.specs.List.{IsDistinct}
use Rattle.box_tree.specs.BoxLists.{keys_over, box_at, is_over}
use Rattle.box_tree.specs.Indexes.{IsEntryOf, IsStanding, AreStanding, filled, IsIndex}
use Rattle.box_tree.specs.declared.key_entries.TheConstants.{MAX_KEYS}
use Rattle.fixed_geom.specs.declared.boxes.Box2.{Box2}
use Rattle.box_tree_base.specs.declared.leaves.Leaf.{Leaf}
use Rattle.box_tree.specs.declared.key_entries.KeyEntry.{KeyEntry}
use Rattle.box_tree.proofs.KeptLemmas.{fresh, others_differ, old_in}
use Rattle.box_tree_base.proofs.WalkLemmas.{overlaps_within}

-- ---- entries and boxes side by side

pub standing_at : (n k : ℕ) (entries : List (Option KeyEntry)) (boxes : List (Option Box2)) → AreStanding n entries boxes → IsStanding (n + k) (entry_at entries k) (box_at boxes k)
standing_at n k [] [] h = tt
standing_at n k [] (b ∷ boxes) h = absurd h
standing_at n k (o ∷ entries) [] h = absurd h
standing_at n zero (o ∷ entries) (b ∷ boxes) h = let e : n + 0 ≡ n = omega arith in rw e h.0
standing_at n (suc k) (o ∷ entries) (b ∷ boxes) h = let e : n + suc k ≡ suc n + k = omega arith in rw e (standing_at (suc n) k entries boxes h.1)

pub standing_set : (n k : ℕ) (o : Option KeyEntry) (b : Option Box2) (entries : List (Option KeyEntry)) (boxes : List (Option Box2)) → AreStanding n entries boxes → IsStanding (n + k) o b → AreStanding n (slice_set entries k o) (slice_set boxes k b)
standing_set n k o b [] [] h s = tt
standing_set n k o b [] (c ∷ boxes) h s = absurd h
standing_set n k o b (p ∷ entries) [] h s = absurd h
standing_set n zero o b (p ∷ entries) (c ∷ boxes) h s = let e : n + 0 ≡ n = omega arith in (rw e at s, h.1)
standing_set n (suc k) o b (p ∷ entries) (c ∷ boxes) h s = let e : n + suc k ≡ suc n + k = omega arith in (h.0, standing_set (suc n) k o b entries boxes h.1 (rw e at s))

pub standing_length : (n : ℕ) (entries : List (Option KeyEntry)) (boxes : List (Option Box2)) → AreStanding n entries boxes → length entries ≡ length boxes
standing_length n [] [] h = refl
standing_length n [] (b ∷ boxes) h = absurd h
standing_length n (o ∷ entries) [] h = absurd h
standing_length n (o ∷ entries) (b ∷ boxes) h = ap suc (standing_length (suc n) entries boxes h.1)

pub standing_more : (n : ℕ) (entries : List (Option KeyEntry)) (boxes : List (Option Box2)) → AreStanding n entries boxes → AreStanding n (entries ++ None ∷ []) (boxes ++ None ∷ [])
standing_more n [] [] h = (tt, tt)
standing_more n [] (b ∷ boxes) h = absurd h
standing_more n (o ∷ entries) [] h = absurd h
standing_more n (o ∷ entries) (b ∷ boxes) h = (h.0, standing_more (suc n) entries boxes h.1)

from_zero : (k : ℕ) → 0 + k ≡ k
from_zero k = omega arith

pub standing_here : (k : ℕ) (entries : List (Option KeyEntry)) (boxes : List (Option Box2)) → AreStanding 0 entries boxes → IsStanding k (entry_at entries k) (box_at boxes k)
standing_here k entries boxes h = subst (λ (n : ℕ). IsStanding n (entry_at entries k) (box_at boxes k)) (from_zero k) (standing_at 0 k entries boxes h)

pub standing_put : (k : ℕ) (o : Option KeyEntry) (b : Option Box2) (entries : List (Option KeyEntry)) (boxes : List (Option Box2)) → AreStanding 0 entries boxes → IsStanding k o b → AreStanding 0 (slice_set entries k o) (slice_set boxes k b)
standing_put k o b entries boxes h s = standing_set 0 k o b entries boxes h (subst (λ (n : ℕ). IsStanding n o b) (sym (from_zero k)) s)

-- ---- how many there are

pub filled_more : (entries : List (Option KeyEntry)) → filled (entries ++ None ∷ []) ≡ filled entries
filled_more [] = refl
filled_more (None ∷ entries) = filled_more entries
filled_more (Some p ∷ entries) = ap suc (filled_more entries)

pub filled_few : (entries : List (Option KeyEntry)) → filled entries ≤ length entries
filled_few [] = omega arith
filled_few (None ∷ entries) = omega (arith, filled_few entries)
filled_few (Some p ∷ entries) = omega (arith, filled_few entries)

pub filled_put : (entries : List (Option KeyEntry)) (k : ℕ) (p : KeyEntry) → k < length entries → entry_at entries k ≡ None → filled (slice_set entries k (Some p)) ≡ suc (filled entries)
filled_put [] k p lt h = absurd (omega arith)
filled_put (None ∷ entries) zero p lt h = refl
filled_put (Some q ∷ entries) zero p lt h = cc
filled_put (None ∷ entries) (suc k) p lt h = filled_put entries k p (omega arith) h
filled_put (Some q ∷ entries) (suc k) p lt h = ap suc (filled_put entries k p (omega arith) h)

pub filled_take : (entries : List (Option KeyEntry)) (k : ℕ) (p : KeyEntry) → entry_at entries k ≡ Some p → suc (filled (slice_set entries k None)) ≡ filled entries
filled_take [] k p h = cc
filled_take (None ∷ entries) zero p h = cc
filled_take (Some q ∷ entries) zero p h = refl
filled_take (None ∷ entries) (suc k) p h = filled_take entries k p h
filled_take (Some q ∷ entries) (suc k) p h = ap suc (filled_take entries k p h)

pub filled_same : (entries : List (Option KeyEntry)) (k : ℕ) (p q : KeyEntry) → entry_at entries k ≡ Some p → filled (slice_set entries k (Some q)) ≡ filled entries
filled_same [] k p q h = cc
filled_same (None ∷ entries) zero p q h = cc
filled_same (Some r ∷ entries) zero p q h = refl
filled_same (None ∷ entries) (suc k) p q h = filled_same entries k p q h
filled_same (Some r ∷ entries) (suc k) p q h = ap suc (filled_same entries k p q h)

added_length : {X : Type 0} (e : X) (old new : List X) → IsAdded e old new → length new ≡ suc (length old)
added_length e old new a =
    let l : length (a.front ++ a.back) ≡ length a.front + length a.back = length-append a.front a.back in
    let m : length (a.front ++ e ∷ a.back) ≡ length a.front + length (e ∷ a.back) = length-append a.front (e ∷ a.back) in
    rw (a.was, a.is) (omega arith)

pub few_leaves : (leaves : List Leaf) (entries : List (Option KeyEntry)) (boxes : List (Option Box2)) → IsIndex leaves entries boxes → length leaves ≤ MAX_KEYS
few_leaves leaves entries boxes h = omega (arith, h.count, filled_few entries, standing_length 0 entries boxes h.standing, h.few)

-- ---- ranks

rank_standing : (k : ℕ) (p : KeyEntry) (b : Option Box2) → IsStanding k (Some p) b → p.rank % MAX_KEYS ≡ k
rank_standing k p None h = absurd h
rank_standing k p (Some x) h = h.rank

pub ranked_entry : (leaves : List Leaf) (entries : List (Option KeyEntry)) (boxes : List (Option Box2)) (k : ℕ) (p : KeyEntry) → IsIndex leaves entries boxes → entry_at entries k ≡ Some p → p.rank % MAX_KEYS ≡ k
ranked_entry leaves entries boxes k p h is =
    let s : IsStanding k (entry_at entries k) (box_at boxes k) = standing_here k entries boxes h.standing in
    rank_standing k p (box_at boxes k) (rw is at s)

pub ranked : (leaves : List Leaf) (entries : List (Option KeyEntry)) (boxes : List (Option Box2)) (e : Leaf) → IsIndex leaves entries boxes → IsIn e leaves → e.rank % MAX_KEYS ≡ e.key
ranked leaves entries boxes e h i =
    let s : IsStanding e.key (entry_at entries e.key) (box_at boxes e.key) = standing_here e.key entries boxes h.standing in
    rank_standing e.key (entry_of e) (box_at boxes e.key) (rw (h.kept.sound e i) at s)

differ_rank : (a b k j : ℕ) → a % MAX_KEYS ≡ k → b % MAX_KEYS ≡ j → j ≢ k → b ≢ a
differ_rank a b k j p q n = λ e. n (sym q ∙ ap (λ (x : ℕ). x % MAX_KEYS) e ∙ p)

each_other : (rank key : ℕ) (leaves : List Leaf) → rank % MAX_KEYS ≡ key → ((e : Leaf) → IsIn e leaves → e.rank % MAX_KEYS ≡ e.key) → ((e : Leaf) → IsIn e leaves → e.key ≢ key) → Each (IsOther rank) leaves
each_other rank key [] r f g = tt
each_other rank key (e ∷ leaves) r f g = (differ_rank rank e.rank key e.key r (f e (inl refl)) (g e (inl refl)), each_other rank key leaves r (λ x i. f x (inr i)) (λ x i. g x (inr i)))

none_standing : (k : ℕ) (o : Option KeyEntry) (b : Option Box2) → IsStanding k o b → b ≡ None → o ≡ None
none_standing k None b h e = refl
none_standing k (Some p) None h e = absurd h
none_standing k (Some p) (Some x) h e = cc

pub free_entry : (leaves : List Leaf) (entries : List (Option KeyEntry)) (boxes : List (Option Box2)) (k : ℕ) → IsIndex leaves entries boxes → box_at boxes k ≡ None → entry_at entries k ≡ None
free_entry leaves entries boxes k h e = none_standing k (entry_at entries k) (box_at boxes k) (standing_here k entries boxes h.standing) e

some_standing : (k : ℕ) (o : Option KeyEntry) (b : Option Box2) → IsStanding k o b → is_some b ≡ true → o ≡ None → ⊥
some_standing k None None h e n = cc
some_standing k None (Some x) h e n = h
some_standing k (Some p) b h e n = cc

pub taken_entry : (leaves : List Leaf) (entries : List (Option KeyEntry)) (boxes : List (Option Box2)) (k : ℕ) → IsIndex leaves entries boxes → is_some (box_at boxes k) ≡ true → entry_at entries k ≡ None → ⊥
taken_entry leaves entries boxes k h e n = some_standing k (entry_at entries k) (box_at boxes k) (standing_here k entries boxes h.standing) e n

pub new_rank : (leaves : List Leaf) (entries : List (Option KeyEntry)) (boxes : List (Option Box2)) (k rank : ℕ) → IsIndex leaves entries boxes → entry_at entries k ≡ None → rank % MAX_KEYS ≡ k → Each (IsOther rank) leaves
new_rank leaves entries boxes k rank h none r = each_other rank k leaves r (λ e i. ranked leaves entries boxes e h i) (λ e i. fresh leaves entries k h.kept none e i)

pub moved_rank : (leaves rest : List Leaf) (entries : List (Option KeyEntry)) (boxes : List (Option Box2)) (e : Leaf) (rank : ℕ) → IsIndex leaves entries boxes → rank % MAX_KEYS ≡ e.key → IsAdded e rest leaves → Each (IsOther rank) rest
moved_rank leaves rest entries boxes e rank h r a =
    each_other rank e.key rest r (λ x i. ranked leaves entries boxes x h (old_in x e rest leaves a i)) (λ x i. others_differ e x a.front a.back (rw a.is at h.kept.distinct) (rw a.was at i))

-- ---- what each call keeps

length_boxes : (boxes : List (Option Box2)) (k : ℕ) (o : Option Box2) → length (slice_set boxes k o) ≡ length boxes
length_boxes [] k o = refl
length_boxes (x ∷ boxes) zero o = refl
length_boxes (x ∷ boxes) (suc k) o = ap suc (length_boxes boxes k o)

pub index_insert : (leaves new : List Leaf) (entries : List (Option KeyEntry)) (boxes : List (Option Box2)) (k : ℕ) (p : KeyEntry) (x : Box2) → IsIndex leaves entries boxes → k < length boxes → box_at boxes k ≡ None → IsEntryOf k p x → IsAdded (leaf_of k p) leaves new → IsKept new (slice_set entries k (Some p)) → IsIndex new (slice_set entries k (Some p)) (slice_set boxes k (Some x))
index_insert leaves new entries boxes k p x h lt free entry a kept =
    let l : length entries ≡ length boxes = standing_length 0 entries boxes h.standing in
    let n : length new ≡ suc (length leaves) = added_length (leaf_of k p) leaves new a in
    let f : filled (slice_set entries k (Some p)) ≡ suc (filled entries) = filled_put entries k p (omega arith) (free_entry leaves entries boxes k h free) in
    let c : length leaves ≡ filled entries = h.count in
    record {
      kept = kept;
      standing = standing_put k (Some p) (Some x) entries boxes h.standing entry;
      count = omega arith;
      few = rw (length_boxes boxes k (Some x)) h.few;
    }

pub index_remove : (leaves rest : List Leaf) (entries : List (Option KeyEntry)) (boxes : List (Option Box2)) (k : ℕ) (p : KeyEntry) → IsIndex leaves entries boxes → entry_at entries k ≡ Some p → IsAdded (leaf_of k p) rest leaves → IsKept rest (slice_set entries k None) → IsIndex rest (slice_set entries k None) (slice_set boxes k None)
index_remove leaves rest entries boxes k p h is a kept =
    let n : length leaves ≡ suc (length rest) = added_length (leaf_of k p) rest leaves a in
    let f : suc (filled (slice_set entries k None)) ≡ filled entries = filled_take entries k p is in
    let c : length leaves ≡ filled entries = h.count in
    record {
      kept = kept;
      standing = standing_put k None None entries boxes h.standing tt;
      count = omega arith;
      few = rw (length_boxes boxes k None) h.few;
    }

pub index_move : (leaves new : List Leaf) (entries : List (Option KeyEntry)) (boxes : List (Option Box2)) (k : ℕ) (p q : KeyEntry) (x : Box2) → IsIndex leaves entries boxes → entry_at entries k ≡ Some p → IsEntryOf k q x → IsMoved (leaf_of k p) (leaf_of k q) leaves new → IsKept new (slice_set entries k (Some q)) → IsIndex new (slice_set entries k (Some q)) (slice_set boxes k (Some x))
index_move leaves new entries boxes k p q x h is entry m kept =
    let n : length leaves ≡ suc (length m.rest) = added_length (leaf_of k p) m.rest leaves m.taken in
    let o : length new ≡ suc (length m.rest) = added_length (leaf_of k q) m.rest new m.put in
    let f : filled (slice_set entries k (Some q)) ≡ filled entries = filled_same entries k p q is in
    let c : length leaves ≡ filled entries = h.count in
    record {
      kept = kept;
      standing = standing_put k (Some q) (Some x) entries boxes h.standing entry;
      count = omega arith;
      few = rw (length_boxes boxes k (Some x)) h.few;
    }

set_itself : (entries : List (Option KeyEntry)) (k : ℕ) (p : KeyEntry) → entry_at entries k ≡ Some p → slice_set entries k (Some p) ≡ entries
set_itself [] k p h = cc
set_itself (o ∷ entries) zero p h = ap (λ (q : Option KeyEntry). q ∷ entries) (sym h)
set_itself (o ∷ entries) (suc k) p h = ap (λ (qs : List (Option KeyEntry)). o ∷ qs) (set_itself entries k p h)

-- the box changes within its loose one
pub index_stay : (leaves : List Leaf) (entries : List (Option KeyEntry)) (boxes : List (Option Box2)) (k : ℕ) (p : KeyEntry) (x : Box2) → IsIndex leaves entries boxes → entry_at entries k ≡ Some p → Contains p.bounds x → IsIndex leaves entries (slice_set boxes k (Some x))
index_stay leaves entries boxes k p x h is inside =
    let entry : IsEntryOf k p x = record { inside = inside; rank = ranked_entry leaves entries boxes k p h is } in
    let set : AreStanding 0 (slice_set entries k (Some p)) (slice_set boxes k (Some x)) = standing_put k (Some p) (Some x) entries boxes h.standing entry in
    record {
      kept = h.kept;
      standing = rw (set_itself entries k p is) at set;
      count = h.count;
      few = rw (length_boxes boxes k (Some x)) h.few;
    }

-- ---- the keys over a box

over_step : (t u : Bool) (n : ℕ) (test : ℕ → Bool) (us vs : List ℕ) → (t ≡ false → u ≡ false) → test n ≡ u → filter test us ≡ vs → filter test (cond t (n ∷ us) us) ≡ cond u (n ∷ vs) vs
over_step false u n test us vs f e h = rw (f refl) h
over_step true u n test us vs f e h = rw (e, h) refl

over_from : (b : Box2) (all : List (Option Box2)) (n : ℕ) (entries : List (Option KeyEntry)) (boxes : List (Option Box2)) → AreStanding n entries boxes → ((j : ℕ) → box_at boxes j ≡ box_at all (n + j)) → filter (λ k. is_over b (box_at all k)) (loose_keys b n entries) ≡ keys_over b n boxes
over_from b all n [] [] h f = refl
over_from b all n [] (x ∷ boxes) h f = absurd h
over_from b all n (o ∷ entries) [] h f = absurd h
over_from b all n (None ∷ entries) (None ∷ boxes) h f = over_from b all (suc n) entries boxes h.1 (λ j. let e : n + suc j ≡ suc n + j = omega arith in f (suc j) ∙ ap (box_at all) e)
over_from b all n (None ∷ entries) (Some x ∷ boxes) h f = absurd h.0
over_from b all n (Some p ∷ entries) (None ∷ boxes) h f = absurd h.0
over_from b all n (Some p ∷ entries) (Some x ∷ boxes) h f =
    let z : n + 0 ≡ n = omega arith in
    let here : box_at all n ≡ Some x = ap (box_at all) (sym z) ∙ sym (f 0) in
    over_step (overlaps p.bounds b) (overlaps x b) n (λ k. is_over b (box_at all k)) (loose_keys b (suc n) entries) (keys_over b (suc n) boxes) (overlaps_within p.bounds x b h.0.inside) (ap (is_over b) here)
    (over_from b all (suc n) entries boxes h.1 (λ j. let e : n + suc j ≡ suc n + j = omega arith in f (suc j) ∙ ap (box_at all) e))

pub over_is_scan : (b : Box2) (leaves : List Leaf) (entries : List (Option KeyEntry)) (boxes : List (Option Box2)) → IsIndex leaves entries boxes → filter (λ k. is_over b (box_at boxes k)) (loose_keys b 0 entries) ≡ keys_over b 0 boxes
over_is_scan b leaves entries boxes h = over_from b boxes 0 entries boxes h.standing (λ j. ap (box_at boxes) (sym (from_zero j)))

-- ---- as the code reads the lists

pub entry_read : (entries : List (Option KeyEntry)) (k : ℕ) → slice_index_or entries k None ≡ entry_at entries k
entry_read [] k = refl
entry_read (o ∷ entries) zero = refl
entry_read (o ∷ entries) (suc k) = entry_read entries k

pub box_beyond : (boxes : List (Option Box2)) (k : ℕ) → length boxes ≤ k → box_at boxes k ≡ None
box_beyond [] k h = refl
box_beyond (o ∷ boxes) zero h = absurd (omega arith)
box_beyond (o ∷ boxes) (suc k) h = box_beyond boxes k (omega arith)

pub box_there : (boxes : List (Option Box2)) (k : ℕ) (o : Option Box2) → k < length boxes → o ≡ get_or boxes k o → box_at boxes k ≡ o
box_there [] k o lt h = absurd (omega arith)
box_there (b ∷ boxes) zero o lt h = sym h
box_there (b ∷ boxes) (suc k) o lt h = box_there boxes k o (omega arith) h

pub room_for : (leaves : List Leaf) (entries : List (Option KeyEntry)) (boxes : List (Option Box2)) (k : ℕ) → IsIndex leaves entries boxes → k < length boxes → k < length entries
room_for leaves entries boxes k h lt = omega (arith, standing_length 0 entries boxes h.standing)

none_distinct : IsDistinct eqb (keys_of [])
unfolding IsDistinct
none_distinct = tt

pub no_boxes : IsIndex [] [] []
no_boxes = record {
  kept = record { sound = λ e i. absurd i; complete = λ k p h. cc; distinct = none_distinct };
  standing = tt;
  count = refl;
  few = omega arith;
}

-- one key more, with no box
entry_more : (entries : List (Option KeyEntry)) (k : ℕ) → entry_at (entries ++ None ∷ []) k ≡ entry_at entries k
entry_more [] zero = refl
entry_more [] (suc k) = refl
entry_more (o ∷ entries) zero = refl
entry_more (o ∷ entries) (suc k) = entry_more entries k

length_more : (boxes : List (Option Box2)) → length (boxes ++ None ∷ []) ≡ suc (length boxes)
length_more [] = refl
length_more (b ∷ boxes) = ap suc (length_more boxes)

pub index_grow : (leaves : List Leaf) (entries : List (Option KeyEntry)) (boxes : List (Option Box2)) → IsIndex leaves entries boxes → length boxes < MAX_KEYS → IsIndex leaves (entries ++ None ∷ []) (boxes ++ None ∷ [])
index_grow leaves entries boxes h lt =
    let n : length (boxes ++ None ∷ []) ≡ suc (length boxes) = length_more boxes in
    record {
      kept = record {
        sound = λ e i. entry_more entries e.key ∙ h.kept.sound e i;
        complete = λ k p q. h.kept.complete k p (sym (entry_more entries k) ∙ q);
        distinct = h.kept.distinct;
      };
      standing = standing_more 0 entries boxes h.standing;
      count = h.count ∙ sym (filled_more entries);
      few = omega arith;
    }

pub some_within : (boxes : List (Option Box2)) (k : ℕ) → is_some (box_at boxes k) ≡ true → k < length boxes
some_within [] k h = cc
some_within (o ∷ boxes) zero h = omega arith
some_within (o ∷ boxes) (suc k) h = omega (arith, some_within boxes k h)
