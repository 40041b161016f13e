-- Trusted: The colours of the active constraints: a list for each, in none of which two share a mover, and after them
-- the overflow.
use Rattle.std.specs.Prelude.{◌≡◌, ℕ, ◌≤◌, ◌+◌, ◌==◌, List, [], length, map, take, slice_index_or, slice_set, All}
use Rattle.std.specs.List.{flat_map, count_by, position_or_len}
use Rattle.graph_colours.specs.declared.limits.TheConstants.{COLOURS}
use Rattle.graph_colours.specs.declared.member.Movers.{Movers}
use Rattle.graph_colours.specs.declared.member.Member.{Member}
use Rattle.graph_colours.specs.Members.{AreRising, AreApart, is_free, inserted, without_member}

-- what contracts see: the members of each colour once all edits are made, how many more constraints may be placed with
-- no memory, the bound below which their movers' slots must be, and whether edits are put off: if it is 0, none
pub record Coloured (C : Type 0) : Type 0 where
  pub lists : List (List (Member C))
  pub room : ℕ
  pub slots : ℕ
  pub pending : ℕ

abbrev pub list_at : {C : Type 0} → List (List (Member C)) → ℕ → List (Member C)
list_at lists colour = slice_index_or lists colour []

-- the ids in each colour
abbrev pub ids_of : {C : Type 0} → List (List (Member C)) → List (List C)
ids_of lists = map (λ ms. map (λ m. m.id) ms) lists

-- the members of all colours
abbrev pub all_members : {C : Type 0} → List (List (Member C)) → List (Member C)
all_members lists = flat_map (λ ms. ms) lists

-- the first of the colours none of whose members shares a mover with the constraint; the overflow if there is none
unfoldable pub least_colour : {C : Type 0} → List (List (Member C)) → Movers → ℕ
least_colour lists movers = position_or_len (λ ms. is_free ms movers) (take COLOURS lists)

-- the constraint is put into its colour
unfoldable pub with_placed : {C : Type 0} → (C → ℕ) → Member C → List (List (Member C)) → List (List (Member C))
with_placed number m lists = let colour = least_colour lists m.movers in slice_set lists colour (inserted number m (list_at lists colour))

-- the constraint is taken out of its colour
unfoldable pub released : {C : Type 0} → (C → ℕ) → C → List (List (Member C)) → List (List (Member C))
released number id lists = map (without_member number id) lists

-- what every colouring keeps: a list for each colour and one for the overflow; each ascends, no two of one colour share
-- a mover, and no id stands twice
pub record IsColouring {C : Type 0} (number : C → ℕ) (lists : List (List (Member C))) : Type 0 where
  pub count : length lists ≡ COLOURS + 1
  pub rising : All (AreRising number) lists
  pub apart : All AreApart (take COLOURS lists)
  pub once : (n : ℕ) → count_by (λ m. number m.id == n) (all_members lists) ≤ 1
