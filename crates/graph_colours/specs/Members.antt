-- Trusted: The members of one colour: constraints that ascend by the numbers of their ids.
use Rattle.std.specs.Prelude.{◌≡◌, ℕ, ◌<◌, ◌==◌, Bool, false, not, cond, nat_lt, List, [], ◌∷◌}
use Rattle.std.specs.List.{AllPairs, filter, list_any}
use Rattle.graph_colours.specs.declared.member.Movers.{Movers}
use Rattle.graph_colours.specs.declared.member.Member.{Member}
use Rattle.graph_colours.specs.Movers.{shares}

-- each id's number is below those of all later ones
abbrev pub AreRising : {C : Type 0} → (C → ℕ) → List (Member C) → Type 0
AreRising number ms = AllPairs (λ m later. number m.id < number later.id) ms

-- no two share a mover
abbrev pub AreApart : {C : Type 0} → List (Member C) → Type 0
AreApart ms = AllPairs (λ m later. shares m.movers later.movers ≡ false) ms

-- no member shares a mover with the constraint
unfoldable pub is_free : {C : Type 0} → List (Member C) → Movers → Bool
is_free ms movers = not (list_any (λ m. shares m.movers movers) ms)

-- with one more member, which stands before the first whose number isn't lower
abbrev pub inserted : {C : Type 0} → (C → ℕ) → Member C → List (Member C) → List (Member C)
inserted number m [] = m ∷ []
inserted number m (x ∷ xs) = cond (nat_lt (number x.id) (number m.id)) (x ∷ inserted number m xs) (m ∷ x ∷ xs)

-- without the member that has the id
unfoldable pub without_member : {C : Type 0} → (C → ℕ) → C → List (Member C) → List (Member C)
without_member number id ms = filter (λ m. not (number m.id == number id)) ms
