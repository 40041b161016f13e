-- A list has one ascending order, where only an item itself ties with it.
use Rattle.std.proofs.Common.{◌≡◌, ℕ, suc, ◌+◌, ◌*◌, ◌≤◌, Bool, true, false, cond, List, [], ◌∷◌, length, get_or, refl, sym, ap, ap₂, ◌∙◌, arith, Ordering, Less, Equal, Greater, is_lt, true≢false, IsPermutation, IsSorted}
use Rattle.std.specs.List.{All, Contains, sum_by}
use Rattle.std.specs.Cmp.{IsTotalOrder}
use Rattle.std.specs.Ordering.{ordering_reverse}
use Rattle.std.proofs.lemmas.List.Elements.{All-from_get_or}
use Rattle.std.proofs.lemmas.List.Sums.{sum_by-cons, sum_by-le}
use Rattle.std.proofs.lemmas.List.Sorted.{sorted_far, ranks_by, sum_by-IsPermutation}

module _ {X : Type 0} (cmp : X → X → Ordering) (total : IsTotalOrder cmp) where
  abbrev is_below : X → X → Bool
  is_below x y = is_lt (cmp x y)

  -- 1 for an item below y
  abbrev below : X → X → ℕ
  below y z = cond (is_below z y) 1 0

  -- an item of xs ties only with itself among the items of ys
  abbrev pub OnlySelfTies : List X → List X → Type 0
  OnlySelfTies xs ys = (x y : X) → Contains xs x → Contains ys y → cmp x y ≡ Equal → x ≡ y

  none_below : (y : X) (ys : List X) → IsSorted cmp (y ∷ ys) → sum_by (below y) (y ∷ ys) ≡ 0
  none_below y ys up =
      let far : All (λ z. below y z ≤ 0) (y ∷ ys) = All-from_get_or (λ z. below y z ≤ 0) (y ∷ ys) y (λ i lt.
      let no : is_below (get_or (y ∷ ys) i y) y ≡ false = sorted_far is_below (ranks_by total (λ x. x)) (y ∷ ys) up 0 i y (omega arith) lt in
      rw no (omega arith)) in
      let most : sum_by (below y) (y ∷ ys) ≤ length (y ∷ ys) * 0 = sum_by-le (below y) 0 (y ∷ ys) far in
      omega (arith, most)

  not_below : (x y : X) (xs : List X) → sum_by (below y) (x ∷ xs) ≡ 0 → is_below x y ≡ false
  not_below x y xs none = go (is_below x y) refl
    where
      go : (b : Bool) → is_below x y ≡ b → is_below x y ≡ false
      go false e = e
      go true e =
          let one : below y x ≡ 1 = rw e refl in
          let parts : sum_by (below y) (x ∷ xs) ≡ below y x + sum_by (below y) xs = sum_by-cons (below y) x xs in
          absurd (omega (arith, one, parts, none))

  tied : (x y : X) → is_below x y ≡ false → is_below y x ≡ false → cmp x y ≡ Equal
  tied x y left right = go (cmp x y) refl
    where
      go : (o : Ordering) → cmp x y ≡ o → cmp x y ≡ Equal
      go Less e = absurd (true≢false (sym (ap is_lt e) ∙ left))
      go Equal e = e
      go Greater e = absurd (true≢false (sym (ap is_lt (total.antisymm y x ∙ ap ordering_reverse e)) ∙ right))

  sorted_tail : (x : X) (xs : List X) → IsSorted cmp (x ∷ xs) → IsSorted cmp xs
  sorted_tail x xs up = λ k d p q. rw Rattle.std.proofs.Common.add-one (rw Rattle.std.proofs.Common.add-one at (up (suc k) d (omega arith) (omega arith)))

  in_tail : (a x : X) (xs : List X) → Contains xs x → Contains (a ∷ xs) x
  in_tail a x xs h = (suc h.0, omega (arith, h.1), h.2)

  same_sums : (xs ys : List X) → IsSorted cmp xs → IsSorted cmp ys → OnlySelfTies xs ys → ((f : X → ℕ) → sum_by f ys ≡ sum_by f xs) → ys ≡ xs
  same_sums [] [] up upward ties sums = refl
  same_sums [] (y ∷ ys) up upward ties sums = absurd (omega (arith, sums (λ _. 1), sum_by-cons (λ _. 1) y ys))
  same_sums (x ∷ xs) [] up upward ties sums = absurd (omega (arith, sums (λ _. 1), sum_by-cons (λ _. 1) x xs))
  same_sums (x ∷ xs) (y ∷ ys) up upward ties sums =
      let low = not_below x y xs (sym (sums (below y)) ∙ none_below y ys upward) in
      let high = not_below y x ys (sums (below x) ∙ none_below x xs up) in
      let head : y ≡ x = sym (ties x y (0, omega arith, refl) (0, omega arith, refl) (tied x y low high)) in
      let rest : (f : X → ℕ) → sum_by f ys ≡ sum_by f xs = λ f.
      let one : f y ≡ f x = ap f head in
      omega (arith, one, sums f, sum_by-cons f y ys, sum_by-cons f x xs) in
      let later : OnlySelfTies xs ys = λ a b p q. ties a b (in_tail x a xs p) (in_tail y b ys q) in
      ap₂ ◌∷◌ head (same_sums xs ys (sorted_tail x xs up) (sorted_tail y ys upward) later rest)

  -- an ascending list and its ascending permutation are one
  pub sorted_once : (xs ys : List X) → IsPermutation xs ys → IsSorted cmp ys → IsSorted cmp xs → OnlySelfTies xs ys → ys ≡ xs
  sorted_once xs ys same upward up ties = same_sums xs ys up upward ties (λ f. sum_by-IsPermutation f xs ys same)
