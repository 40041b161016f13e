-- Two lists that ascend by a number, as one.
use Rattle.std.specs.Prelude.{ℕ, ◌<◌, cond, nat_lt, List, [], ◌∷◌, length, slice_index_or}

-- with one more item, which stands before the first whose number isn't lower
abbrev pub put_in : {X : Type 0} → (X → ℕ) → X → List X → List X
put_in number e [] = e ∷ []
put_in number e (x ∷ xs) = cond (nat_lt (number x) (number e)) (x ∷ put_in number e xs) (e ∷ x ∷ xs)

-- both lists as one
abbrev pub merged : {X : Type 0} → (X → ℕ) → List X → List X → List X
merged number [] rs = rs
merged number (e ∷ es) rs = put_in number e (merged number es rs)

-- each is below all later ones
abbrev pub AreAscending : {X : Type 0} → (X → ℕ) → List X → Type 0
AreAscending {X} number l = (i j : ℕ) (d : X) → i < j → j < length l → number (slice_index_or l i d) < number (slice_index_or l j d)

-- the items of the list that come before e, and the others
abbrev pub below_of : {X : Type 0} → (X → ℕ) → X → List X → List X
below_of number e [] = []
below_of number e (x ∷ xs) = cond (nat_lt (number x) (number e)) (x ∷ below_of number e xs) []

abbrev pub beyond_of : {X : Type 0} → (X → ℕ) → X → List X → List X
beyond_of number e [] = []
beyond_of number e (x ∷ xs) = cond (nat_lt (number x) (number e)) (beyond_of number e xs) (x ∷ xs)
