-- A sort of different numbers rises, and keeps the numbers.
use Rattle.std.proofs.Common.{◌≡◌, ◌≢◌, ℕ, zero, suc, ◌<◌, ◌≤◌, Bool, true, false, cond, eqb, List, [], ◌∷◌, length, inl, inr, refl, sym, arith}
use Rattle.std.specs.List.{Contains, IsDistinct, AllByRecursion, slice_index_or}
use Rattle.std.specs.List.Sorted.{IsPermutation, IsSorted, IsNonDecreasing}
use Rattle.std.specs.Ordering.{nat_cmp}
use Rattle.std.proofs.lemmas.Bool.{eqb-true, eqb-false, eq-eqb, ne_eqb}
use Rattle.std.proofs.lemmas.List.Sorted.{Contains-permutation, IsPermutation-sym, IsNonDecreasingBy-from_sort}
use Rattle.std.proofs.lemmas.Map.Keys.{IsDistinct-head, IsDistinct-tail, IsDistinct-cons, IsDistinct-IsPermutation}
use Rattle.fixed_geom.specs.Boxes.{overlaps}
use Rattle.box_tree_base.specs.Lists.{Each, IsIn}
use Rattle.box_tree_base.specs.Queries.{keys_over}
use Rattle.box_tree.specs.Tables.{loose_keys, keys_of, IsKept}
use Rattle.fixed_geom.specs.declared.boxes.Box2.{Box2}
use Rattle.box_tree_base.specs.declared.leaves.Leaf.{Leaf}
use Rattle.box_tree.specs.declared.key_entries.KeyEntry.{KeyEntry}
use Rattle.std.specs.Prelude.{Option}
use Rattle.box_tree.proofs.RisingLemmas.{IsRising}
use Rattle.box_tree.proofs.ScanLemmas.{found_is_loose}

to_contains : (k : ℕ) (xs : List ℕ) → IsIn k xs → Contains xs k
to_contains k [] h = absurd h
to_contains k (x ∷ xs) h = elim h [ inl p ↦ (0, omega arith, sym p) | inr q ↦ let c = to_contains k xs q in (suc c.0, omega (arith, c.1), c.2) ]

from_contains_at : (k : ℕ) (xs : List ℕ) (i : ℕ) → i < length xs → slice_index_or xs i k ≡ k → IsIn k xs
from_contains_at k [] i h e = absurd (omega arith)
from_contains_at k (x ∷ xs) zero h e = inl (sym e)
from_contains_at k (x ∷ xs) (suc i) h e = inr (from_contains_at k xs i (omega arith) e)

moved : (k : ℕ) (xs ys : List ℕ) → IsPermutation xs ys → IsIn k xs → IsIn k ys
moved k xs ys p h = let c = Contains-permutation xs ys k p (to_contains k xs h) in from_contains_at k ys c.0 c.1 c.2

above_all : (x : ℕ) (xs : List ℕ) → ((k d : ℕ) → k < length xs → x ≤ slice_index_or xs k d) → AllByRecursion (λ y. eqb x y ≡ false) xs → Each (λ y. x < y) xs
above_all x [] f a = tt
above_all x (y ∷ ys) f a =
    let p : x ≤ y = f 0 0 (omega arith) in
    let q : x ≢ y = eqb-false x y a.0 in
    (omega arith, above_all x ys (λ k d h. f (suc k) d (omega arith)) a.1)

rising_from : (xs : List ℕ) → IsNonDecreasing xs → IsDistinct eqb xs → IsRising xs
rising_from [] n d = tt
rising_from (x ∷ xs) n d = (
  above_all x xs (λ k e h. n 0 (suc k) e (omega arith) (omega arith)) (IsDistinct-head eqb x xs d),
  rising_from xs (λ i j e h k. n (suc i) (suc j) e (omega arith) (omega arith)) (IsDistinct-tail eqb x xs d),
)

all_step : (P : ℕ → Type 0) (k : ℕ) (t : Bool) (us : List ℕ) → P k → AllByRecursion P us → AllByRecursion P (cond t (k ∷ us) us)
all_step P k true us p a = (p, a)
all_step P k false us p a = a

all_over : (P : ℕ → Type 0) (b : Box2) (leaves : List Leaf) → AllByRecursion P (keys_of leaves) → AllByRecursion P (keys_over b leaves)
all_over P b [] a = a
all_over P b (e ∷ leaves) a = all_step P e.key (overlaps e.bounds b) (keys_over b leaves) a.0 (all_over P b leaves a.1)

distinct_step : (k : ℕ) (t : Bool) (us : List ℕ) → AllByRecursion (λ y. eqb k y ≡ false) us → IsDistinct eqb us → IsDistinct eqb (cond t (k ∷ us) us)
distinct_step k true us a d = IsDistinct-cons eqb k us a d
distinct_step k false us a d = d

distinct_over : (b : Box2) (leaves : List Leaf) → IsDistinct eqb (keys_of leaves) → IsDistinct eqb (keys_over b leaves)
distinct_over b [] d = d
distinct_over b (e ∷ leaves) d =
    distinct_step e.key (overlaps e.bounds b) (keys_over b leaves)
    (all_over (λ y. eqb e.key y ≡ false) b leaves (IsDistinct-head eqb e.key (keys_of leaves) d))
    (distinct_over b leaves (IsDistinct-tail eqb e.key (keys_of leaves) d))

flipped : (x y : ℕ) (b : Bool) → eqb x y ≡ b → b ≡ eqb y x
flipped x y true e = sym (eq-eqb y x (sym (eqb-true x y e)))
flipped x y false e = let q : x ≢ y = eqb-false x y e in sym (ne_eqb y x (omega arith))

pub sorted_is_loose : (b : Box2) (leaves : List Leaf) (entries : List (Option KeyEntry)) (zs : List ℕ) → IsKept leaves entries → IsPermutation (keys_over b leaves) zs → IsSorted nat_cmp zs → zs ≡ loose_keys b 0 entries
sorted_is_loose b leaves entries zs kept p s =
    found_is_loose b leaves entries zs kept
    (rising_from zs (IsNonDecreasingBy-from_sort (λ x. x) zs s) (IsDistinct-IsPermutation eqb (λ x y. flipped x y (eqb x y) refl) (keys_over b leaves) zs p (distinct_over b leaves kept.distinct)))
    (λ k h. moved k zs (keys_over b leaves) (IsPermutation-sym _ _ p) h)
    (λ k h. moved k (keys_over b leaves) zs p h)
