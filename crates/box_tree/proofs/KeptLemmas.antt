-- The tree and the table keep together.
use Rattle.std.proofs.Common.{◌≡◌, ◌≢◌, ℕ, zero, suc, ◌<◌, Bool, true, false, eqb, List, [], ◌∷◌, ◌++◌, length, ◌⊎◌, inl, inr, Option, Some, None, refl, ap, sym, ◌∙◌, subst, arith}
use Rattle.std.specs.Prelude.{slice_set}
use Rattle.std.specs.List.{IsDistinct, AllByRecursion}
use Rattle.std.proofs.lemmas.Bool.{eqb-false, eqb-true, ne_eqb}
use Rattle.std.proofs.lemmas.Map.Keys.{IsDistinct-head, IsDistinct-tail, IsDistinct-cons}
use Rattle.box_tree_base.specs.Lists.{IsIn, IsAdded}
use Rattle.box_tree.specs.Tables.{keys_of, entry_at, entry_of, leaf_of, IsKept}
use Rattle.box_tree_base.specs.Roots.{IsMoved}
use Rattle.box_tree_base.specs.declared.leaves.Leaf.{Leaf}
use Rattle.box_tree.specs.declared.key_entries.KeyEntry.{KeyEntry}

in_middle : {X : Type 0} (x e : X) (f b : List X) → IsIn x (f ++ e ∷ b) → (x ≡ e) ⊎ IsIn x (f ++ b)
in_middle x e [] b h = h
in_middle x e (y ∷ f) b h = elim h [ inl p ↦ inr (inl p) | inr q ↦ elim (in_middle x e f b q) [ inl p ↦ inl p | inr r ↦ inr (inr r) ] ]

middle_in : {X : Type 0} (x e : X) (f b : List X) → IsIn x (f ++ b) → IsIn x (f ++ e ∷ b)
middle_in x e [] b h = inr h
middle_in x e (y ∷ f) b h = elim h [ inl p ↦ inl p | inr q ↦ inr (middle_in x e f b q) ]

middle_itself : {X : Type 0} (e : X) (f b : List X) → IsIn e (f ++ e ∷ b)
middle_itself e [] b = inl refl
middle_itself e (y ∷ f) b = inr (middle_itself e f b)

pub in_new : {X : Type 0} (x e : X) (old new : List X) → IsAdded e old new → IsIn x new → (x ≡ e) ⊎ IsIn x old
in_new x e old new a h = rw a.was (in_middle x e a.front a.back (rw a.is at h))

pub old_in : {X : Type 0} (x e : X) (old new : List X) → IsAdded e old new → IsIn x old → IsIn x new
old_in x e old new a h = rw a.is (middle_in x e a.front a.back (rw a.was at h))

pub itself_in : {X : Type 0} (e : X) (old new : List X) → IsAdded e old new → IsIn e new
itself_in e old new a = rw a.is (middle_itself e a.front a.back)

pub set_same : (entries : List (Option KeyEntry)) (k : ℕ) (o : Option KeyEntry) → k < length entries → entry_at (slice_set entries k o) k ≡ o
set_same [] k o h = absurd (omega arith)
set_same (q ∷ entries) zero o h = refl
set_same (q ∷ entries) (suc k) o h = set_same entries k o (omega arith)

set_other : (entries : List (Option KeyEntry)) (k j : ℕ) (o : Option KeyEntry) → j ≢ k → entry_at (slice_set entries k o) j ≡ entry_at entries j
set_other [] k j o h = refl
set_other (q ∷ entries) zero zero o h = absurd (h refl)
set_other (q ∷ entries) zero (suc j) o h = refl
set_other (q ∷ entries) (suc k) zero o h = refl
set_other (q ∷ entries) (suc k) (suc j) o h = set_other entries k j o (λ e. h (ap suc e))

all_middle : (P : ℕ → Type 0) (e : Leaf) (f b : List Leaf) → P e.key → AllByRecursion P (keys_of (f ++ b)) → AllByRecursion P (keys_of (f ++ e ∷ b))
all_middle P e [] b p a = (p, a)
all_middle P e (x ∷ f) b p a = (a.0, all_middle P e f b p a.1)

all_unmiddle : (P : ℕ → Type 0) (e : Leaf) (f b : List Leaf) → AllByRecursion P (keys_of (f ++ e ∷ b)) → AllByRecursion P (keys_of (f ++ b))
all_unmiddle P e [] b a = a.1
all_unmiddle P e (x ∷ f) b a = (a.0, all_unmiddle P e f b a.1)

all_differ : (k : ℕ) (leaves : List Leaf) → ((x : Leaf) → IsIn x leaves → x.key ≢ k) → AllByRecursion (λ y. eqb k y ≡ false) (keys_of leaves)
all_differ k [] f = tt
all_differ k (x ∷ leaves) f = let q : x.key ≢ k = f x (inl refl) in (ne_eqb k x.key (omega arith), all_differ k leaves (λ y i. f y (inr i)))

distinct_middle : (e : Leaf) (f b : List Leaf) → ((x : Leaf) → IsIn x (f ++ b) → x.key ≢ e.key) → IsDistinct eqb (keys_of (f ++ b)) → IsDistinct eqb (keys_of (f ++ e ∷ b))
distinct_middle e [] b g d = IsDistinct-cons eqb e.key (keys_of b) (all_differ e.key b g) d
distinct_middle e (x ∷ f) b g d =
    let q : x.key ≢ e.key = g x (inl refl) in
    IsDistinct-cons eqb x.key (keys_of (f ++ e ∷ b)) (all_middle (λ y. eqb x.key y ≡ false) e f b (ne_eqb x.key e.key q) (IsDistinct-head eqb x.key (keys_of (f ++ b)) d))
    (distinct_middle e f b (λ y i. g y (inr i)) (IsDistinct-tail eqb x.key (keys_of (f ++ b)) d))

distinct_unmiddle : (e : Leaf) (f b : List Leaf) → IsDistinct eqb (keys_of (f ++ e ∷ b)) → IsDistinct eqb (keys_of (f ++ b))
distinct_unmiddle e [] b d = IsDistinct-tail eqb e.key (keys_of b) d
distinct_unmiddle e (x ∷ f) b d =
    IsDistinct-cons eqb x.key (keys_of (f ++ b)) (all_unmiddle (λ y. eqb x.key y ≡ false) e f b (IsDistinct-head eqb x.key (keys_of (f ++ e ∷ b)) d))
    (distinct_unmiddle e f b (IsDistinct-tail eqb x.key (keys_of (f ++ e ∷ b)) d))

all_at : (P : ℕ → Type 0) (x : Leaf) (leaves : List Leaf) → AllByRecursion P (keys_of leaves) → IsIn x leaves → P x.key
all_at P x [] a h = absurd h
all_at P x (y ∷ leaves) a h = elim h [ inl p ↦ subst (λ (z : Leaf). P z.key) (sym p) a.0 | inr q ↦ all_at P x leaves a.1 q ]

-- the leaf in the middle shares its key with no other
pub others_differ : (e x : Leaf) (f b : List Leaf) → IsDistinct eqb (keys_of (f ++ e ∷ b)) → IsIn x (f ++ b) → x.key ≢ e.key
others_differ e x [] b d h =
    let q : e.key ≢ x.key = eqb-false e.key x.key (all_at (λ y. eqb e.key y ≡ false) x b (IsDistinct-head eqb e.key (keys_of b) d) h) in
    λ p. q (sym p)
others_differ e x (y ∷ f) b d h =
    elim h [
      | inl p ↦ subst (λ (z : Leaf). z.key ≢ e.key) (sym p) (eqb-false y.key e.key (all_at (λ k. eqb y.key k ≡ false) e (f ++ e ∷ b) (IsDistinct-head eqb y.key (keys_of (f ++ e ∷ b)) d) (middle_itself e f b)))
      | inr q ↦ others_differ e x f b (IsDistinct-tail eqb y.key (keys_of (f ++ e ∷ b)) d) q
    ]

differ : (p : KeyEntry) → Some p ≡ None → ⊥
differ p e = cc

pub fresh : (leaves : List Leaf) (entries : List (Option KeyEntry)) (k : ℕ) → IsKept leaves entries → entry_at entries k ≡ None → (x : Leaf) → IsIn x leaves → x.key ≢ k
fresh leaves entries k kept none x i = λ e. let s : entry_at entries k ≡ Some (entry_of x) = rw e at (kept.sound x i) in absurd (differ (entry_of x) (sym s ∙ none))

cases_at : (j k : ℕ) (b : Bool) → eqb j k ≡ b → (j ≡ k) ⊎ (j ≢ k)
cases_at j k true e = inl (eqb-true j k e)
cases_at j k false e = inr (eqb-false j k e)

cases_equal : (j k : ℕ) → (j ≡ k) ⊎ (j ≢ k)
cases_equal j k = cases_at j k (eqb j k) refl

pub kept_add : (leaves new : List Leaf) (entries : List (Option KeyEntry)) (k : ℕ) (p : KeyEntry) → IsKept leaves entries → k < length entries → entry_at entries k ≡ None → IsAdded (leaf_of k p) leaves new → IsKept new (slice_set entries k (Some p))
kept_add leaves new entries k p kept room none a = record {
  sound = λ e i. elim (in_new e (leaf_of k p) leaves new a i) [
    | inl q ↦ subst (λ (z : Leaf). entry_at (slice_set entries k (Some p)) z.key ≡ Some (entry_of z)) (sym q) (set_same entries k (Some p) room)
    | inr r ↦ set_other entries k e.key (Some p) (fresh leaves entries k kept none e r) ∙ kept.sound e r
  ];
  complete = λ j q h. elim (cases_equal j k) [
    | inl same ↦
        let s : Some p ≡ Some q = sym (set_same entries k (Some p) room) ∙ rw same at h in
        let t : p ≡ q = cc in
        rw (same, sym t) (itself_in (leaf_of k p) leaves new a)
    | inr other ↦ old_in (leaf_of j q) (leaf_of k p) leaves new a (kept.complete j q (sym (set_other entries k j (Some p) other) ∙ h))
  ];
  distinct = rw a.is (distinct_middle (leaf_of k p) a.front a.back (λ x i. fresh leaves entries k kept none x (rw a.was i)) (rw a.was at kept.distinct));
}

pub kept_remove : (leaves rest : List Leaf) (entries : List (Option KeyEntry)) (e : Leaf) → IsKept leaves entries → e.key < length entries → IsAdded e rest leaves → IsKept rest (slice_set entries e.key None)
kept_remove leaves rest entries e kept room a = record {
  sound = λ x i. set_other entries e.key x.key None (others_differ e x a.front a.back (rw a.is at kept.distinct) (rw a.was at i)) ∙ kept.sound x (old_in x e rest leaves a i);
  complete = λ j q h. elim (cases_equal j e.key) [
    | inl same ↦ absurd (differ q (sym (rw same at h) ∙ set_same entries e.key None room))
    | inr other ↦ elim (in_new (leaf_of j q) e rest leaves a (kept.complete j q (sym (set_other entries e.key j None other) ∙ h))) [
      | inl is ↦ absurd (other (ap (λ (z : Leaf). z.key) is))
      | inr r ↦ r
    ]
  ];
  distinct = rw a.was (distinct_unmiddle e a.front a.back (rw a.is at kept.distinct));
}

pub set_set : (entries : List (Option KeyEntry)) (k : ℕ) (o q : Option KeyEntry) → slice_set (slice_set entries k o) k q ≡ slice_set entries k q
set_set [] k o q = refl
set_set (x ∷ entries) zero o q = refl
set_set (x ∷ entries) (suc k) o q = ap (λ l. x ∷ l) (set_set entries k o q)

pub length_set : (entries : List (Option KeyEntry)) (k : ℕ) (o : Option KeyEntry) → length (slice_set entries k o) ≡ length entries
length_set [] k o = refl
length_set (x ∷ entries) zero o = refl
length_set (x ∷ entries) (suc k) o = ap suc (length_set entries k o)

pub kept_replace : (leaves new : List Leaf) (entries : List (Option KeyEntry)) (e : Leaf) (p : KeyEntry) → IsKept leaves entries → e.key < length entries → IsMoved e (leaf_of e.key p) leaves new → IsKept new (slice_set entries e.key (Some p))
kept_replace leaves new entries e p kept room m =
    let wide : e.key < length (slice_set entries e.key None) = rw (length_set entries e.key None) room in
    let less = kept_remove leaves m.rest entries e kept room m.taken in
    let full = kept_add m.rest new (slice_set entries e.key None) e.key p less wide (set_same entries e.key None room) m.put in
    rw (set_set entries e.key None (Some p)) at full
