-- Rows of views, read by number, after one view was set or one was added.
use Rattle.std.proofs.Common.{◌≡◌, ◌≢◌, ◌⊎◌, ℕ, zero, suc, List, [], ◌∷◌, ◌++◌, length, set, refl, sym, ap, subst, inl, inr, ⊎_elim}
use mathlib.Core.Option.{some, some-ne-none, some-injective}
use lib.ListN.{get_elem?}
use Rattle.atomic_table.proofs.Lists.{at_set}

module _ {A : Type 0} where
  -- what stands in a row with one more at its end
  at_end : (row : List A) (a b : A) (j : ℕ) → get_elem? (row ++ a ∷ []) j ≡ some b → (get_elem? row j ≡ some b) ⊎ ((j ≡ length row) × (a ≡ b))
  at_end [] a b zero e = inr (refl, some-injective a b e)
  at_end [] a b (suc j) e = absurd (some-ne-none b (sym e))
  at_end (x ∷ xs) a b zero e = inl e
  at_end (x ∷ xs) a b (suc j) e = ⊎_elim (λ before. inl before) (λ (last : (j ≡ length xs) × (a ≡ b)). inr (ap suc last.0, last.1)) (at_end xs a b j e)

  -- a fact of each with its number, after the one at `here` was set
  pub after_set : (P : ℕ → A → Type 0) (row : List A) (here : ℕ) (a : A) → P here a → ((j : ℕ) (b : A) → j ≢ here → get_elem? row j ≡ some b → P j b)
      → (j : ℕ) (b : A) → get_elem? (set row here a) j ≡ some b → P j b
  after_set P row here a mine others j b e =
      ⊎_elim
      (λ (same : (j ≡ here) × (a ≡ b)). subst (λ (x : ℕ × A). P x.0 x.1) (λ i. (sym same.0 i, same.1 i)) mine)
      (λ (else : (j ≢ here) × (get_elem? row j ≡ some b)). others j b else.0 else.1)
      (at_set row here j a b e)

  -- the same, after one was added
  pub after_push : (P : ℕ → A → Type 0) (row : List A) (a : A) → P (length row) a → ((j : ℕ) (b : A) → get_elem? row j ≡ some b → P j b)
      → (j : ℕ) (b : A) → get_elem? (row ++ a ∷ []) j ≡ some b → P j b
  after_push P row a mine others j b e =
      ⊎_elim
      (λ (before : get_elem? row j ≡ some b). others j b before)
      (λ (last : (j ≡ length row) × (a ≡ b)). subst (λ (x : ℕ × A). P x.0 x.1) (λ i. (sym last.0 i, last.1 i)) mine)
      (at_end row a b j e)
