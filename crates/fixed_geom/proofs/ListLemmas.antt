-- One element of a list written, or one more pushed.
use Rattle.std.proofs.Common.{◌≡◌, ◌≢◌, ℕ, zero, suc, ◌<◌, List, [], ◌∷◌, length, Some, slice_set, arith, refl, inl, inr}
use Rattle.std.specs.List.{slice_get}
use Rattle.std.proofs.lemmas.Bool.{cases_lt}

pub slice_get-set_here : {X : Type 0} (xs : List X) (i : ℕ) (v : X) → i < length xs → slice_get (slice_set xs i v) i ≡ Some v
slice_get-set_here [] i v h = absurd (omega arith)
slice_get-set_here (x ∷ xs) zero v h = refl
slice_get-set_here (x ∷ xs) (suc i) v h = slice_get-set_here xs i v (omega arith)

pub slice_get-set_below : {X : Type 0} (xs : List X) (i k : ℕ) (v : X) → k < i → slice_get (slice_set xs i v) k ≡ slice_get xs k
slice_get-set_below [] i k v h = refl
slice_get-set_below (x ∷ xs) zero k v h = absurd (omega arith)
slice_get-set_below (x ∷ xs) (suc i) zero v h = refl
slice_get-set_below (x ∷ xs) (suc i) (suc k) v h = slice_get-set_below xs i k v (omega arith)

pub slice_get-set_above : {X : Type 0} (xs : List X) (i k : ℕ) (v : X) → i < k → slice_get (slice_set xs i v) k ≡ slice_get xs k
slice_get-set_above [] i k v h = refl
slice_get-set_above (x ∷ xs) zero zero v h = absurd (omega arith)
slice_get-set_above (x ∷ xs) zero (suc k) v h = refl
slice_get-set_above (x ∷ xs) (suc i) zero v h = absurd (omega arith)
slice_get-set_above (x ∷ xs) (suc i) (suc k) v h = slice_get-set_above xs i k v (omega arith)

pub slice_get-set_other : {X : Type 0} (xs : List X) (i k : ℕ) (v : X) → k ≢ i → slice_get (slice_set xs i v) k ≡ slice_get xs k
slice_get-set_other xs i k v h = elim (cases_lt k i) [
  | inl less ↦ slice_get-set_below xs i k v less
  | inr more ↦ slice_get-set_above xs i k v (omega arith)
]
