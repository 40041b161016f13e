-- Inner: members that are found by their ids, or by the numbers of these, and the colour that one has.
use Rattle.std.specs.Prelude.{ℕ, ◌==◌, Bool, false, cond, List, [], ◌∷◌, Option, Some, None}
use Rattle.std.specs.List.{list_any, position}
use Rattle.graph_colours.specs.declared.member.Movers.{Movers}
use Rattle.graph_colours.specs.declared.member.Member.{Member}

-- a member has the id
unfoldable pub has_id : {C : Type 0} → (C → ℕ) → C → List (Member C) → Bool
has_id number id ms = list_any (λ m. number m.id == number id) ms

-- the movers of the member that has the id
abbrev pub movers_of : {C : Type 0} → (C → ℕ) → C → List (Member C) → Option Movers
movers_of number id [] = None
movers_of number id (x ∷ xs) = cond (number x.id == number id) (Some x.movers) (movers_of number id xs)

-- the member whose id has the number
abbrev pub with_number : {C : Type 0} → (C → ℕ) → ℕ → List (Member C) → Option (Member C)
with_number number n [] = None
with_number number n (x ∷ xs) = cond (number x.id == n) (Some x) (with_number number n xs)

-- the first member has the number
abbrev pub is_at : {C : Type 0} → (C → ℕ) → ℕ → List (Member C) → Bool
is_at number n [] = false
is_at number n (x ∷ xs) = number x.id == n

-- the colour of the constraint
unfoldable pub colour_of : {C : Type 0} → (C → ℕ) → C → List (List (Member C)) → Option ℕ
colour_of number id lists = position (has_id number id) lists
