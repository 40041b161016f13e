-- Lists that ascend strictly are what sorting them gives.
use Rattle.std.proofs.Common.{◌≡◌, ℕ, ◌+◌, ◌<◌, ◌≤◌, false, List, length, map, get_or, refl, sym, ap, ap₂, ◌∙◌, arith, Ordering, Less, Equal, Greater, is_lt, is_gt, true≢false, IsPermutation, IsSorted}
use Rattle.std.specs.List.{Contains}
use Rattle.std.specs.List.Sorted.{IsStrictlyIncreasing, IsNonDecreasingBy, IsSortedByKey}
use Rattle.std.specs.Cmp.{IsTotalOrder}
use Rattle.std.specs.Ordering.{nat_cmp, ordering_then}
use Rattle.std.proofs.lemmas.Cmp.{nat_cmp_total, then_total, on_total}
use Rattle.std.proofs.lemmas.Map.Lookups.{CmpEqualImpliesEq, exact_unsigned}
use Rattle.std.proofs.lemmas.Bool.Decides.{nat_tests}
use Rattle.std.proofs.lemmas.List.{get_or-map, length-map, get_or_default}
use Rattle.std.proofs.lemmas.List.Kept.{AllPairs-from_increasing}
use Rattle.std.proofs.lemmas.List.Sorted.{Contains-permutation, IsPermutation-sym}
use Rattle.body_handles.specs.declared.handle.Handle.{Handle}
use Rattle.body_handles.specs.Orders.{handle_cmp, slot_of}
use Rattle.event_feed.proofs.OnceLemmas.{sorted_once}

not_lt : (a b : ℕ) → b ≤ a → is_lt (nat_cmp a b) ≡ false
not_lt a b h = grind (arith, nat_tests)

module _ {X : Type 0} (n : X → ℕ) where
  rises_far : (xs : List X) → IsStrictlyIncreasing (map n xs) → (i j : ℕ) (d : X) → i < j → j < length xs → n (get_or xs i d) < n (get_or xs j d)
  rises_far xs h i j d lt lj =
      let len : length (map n xs) ≡ length xs = length-map xs n in
      let li : i < length xs = omega arith in
      let p : get_or (map n xs) i 0 < get_or (map n xs) j 0 = AllPairs-from_increasing _ h i j 0 lt (omega arith) in
      let a : get_or (map n xs) i 0 ≡ n (get_or xs i d) = get_or-map n xs i d 0 li in
      let b : get_or (map n xs) j 0 ≡ n (get_or xs j d) = get_or-map n xs j d 0 lj in
      omega arith

  sorted_from_rising : (xs : List X) → IsStrictlyIncreasing (map n xs) → IsSortedByKey n nat_cmp xs
  sorted_from_rising xs h = λ k d p q. let up : n (get_or xs k d) < n (get_or xs (k + 1) d) = rises_far xs h k (k + 1) d (omega arith) (omega arith) in not_lt (n (get_or xs (k + 1) d)) (n (get_or xs k d)) (omega arith)

  one_place : (xs : List X) → IsStrictlyIncreasing (map n xs) → (x y : X) → Contains xs x → Contains xs y → n x ≡ n y → x ≡ y
  one_place xs h x y p q e =
      let at_y : get_or xs q.0 x ≡ y = get_or_default xs q.0 x y q.1 ∙ q.2 in
      let e1 : n (get_or xs p.0 x) ≡ n x = ap n p.2 in
      let e2 : n (get_or xs q.0 x) ≡ n y = ap n at_y in
      let up : p.0 < q.0 → ⊥ = λ l. let r : n (get_or xs p.0 x) < n (get_or xs q.0 x) = rises_far xs h p.0 q.0 x l q.1 in omega arith in
      let down : q.0 < p.0 → ⊥ = λ l. let r : n (get_or xs q.0 x) < n (get_or xs p.0 x) = rises_far xs h q.0 p.0 x l p.1 in omega arith in
      let place : p.0 ≡ q.0 = omega (arith, up, down) in
      sym p.2 ∙ (ap (λ k. get_or xs k x) place ∙ at_y)

  -- a list whose numbers rise is its only order in which they ascend
  pub rising_kept : (xs ys : List X) → IsPermutation xs ys → IsNonDecreasingBy n ys → IsStrictlyIncreasing (map n xs) → ys ≡ xs
  rising_kept xs ys same upward h = sorted_once (λ x y. nat_cmp (n x) (n y)) (on_total n nat_cmp_total) xs ys same (λ k d p q. not_lt _ _ (upward k (k + 1) d (omega arith) q)) (sorted_from_rising xs h)
      (λ x y p q e. one_place xs h x y p (Contains-permutation ys xs y (IsPermutation-sym xs ys same) q) (exact_unsigned (n x) (n y) e))

handle_total : IsTotalOrder handle_cmp
handle_total = then_total (on_total slot_of nat_cmp_total) (on_total (λ (h : Handle). h.generation) nat_cmp_total)

both_tie : (a b : Ordering) → ordering_then a b ≡ Equal → (a ≡ Equal) × (b ≡ Equal)
both_tie Less b e = absurd (true≢false (ap is_lt e))
both_tie Equal b e = (refl, e)
both_tie Greater b e = absurd (true≢false (ap is_gt e))

handle_exact : CmpEqualImpliesEq handle_cmp
handle_exact a b e =
    let t = both_tie _ _ e in
    ap₂ (λ s g. record { slot = s; generation = g }) (exact_unsigned a.slot b.slot t.0) (exact_unsigned a.generation b.generation t.1)

-- handles that ascend are their only ascending order
pub handles_once : (xs ys : List Handle) → IsPermutation xs ys → IsSorted handle_cmp ys → IsSorted handle_cmp xs → ys ≡ xs
handles_once xs ys same upward up = sorted_once handle_cmp handle_total xs ys same upward up (λ x y p q. handle_exact x y)

later_slot : (a b : Handle) → b.slot < a.slot → is_lt (handle_cmp a b) ≡ false
later_slot a b h = grind (arith, nat_tests)

-- slots that rise make the handles ascend
pub sorted_from_slots : (xs : List Handle) → IsStrictlyIncreasing (map slot_of xs) → IsSorted handle_cmp xs
sorted_from_slots xs h = λ k d p q. later_slot (get_or xs (k + 1) d) (get_or xs k d) (rises_far slot_of xs h k (k + 1) d (omega arith) (omega arith))

pub slots_kept : (xs ys : List Handle) → IsPermutation xs ys → IsSorted handle_cmp ys → IsStrictlyIncreasing (map slot_of xs) → ys ≡ xs
slots_kept xs ys same upward h = handles_once xs ys same upward (sorted_from_slots xs h)
