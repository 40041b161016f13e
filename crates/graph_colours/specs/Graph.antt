-- How the whole graph is kept.
use Rattle.std.specs.Prelude.{◌≡◌, ℕ, ◌≤◌, Bool, true, List, length, map, All}
use Rattle.graph_colours.specs.declared.member.Member.{Member}
use Rattle.graph_colours.specs.declared.colours.Size.{Size}
use Rattle.graph_colours.specs.Edits.{Pended}
use Rattle.graph_colours.specs.Colours.{all_members, IsColouring}
use Rattle.graph_colours.specs.TakenColours.{AreTakenColours}

-- the members of each list
abbrev pub lists_of : {C : Type 0} → List (Pended C) → List (List (Member C))
lists_of kept = map (λ l. l.items) kept

-- each list has room for so many in all
abbrev pub HaveRoom : {C : Type 0} → ℕ → List (Pended C) → Type 0
HaveRoom room kept = All (λ l. room ≤ l.capacity) kept

-- no edit of a list is put off
abbrev pub AreAtRest : {C : Type 0} → List (Pended C) → Type 0
AreAtRest kept = All (λ l. l.pending ≡ 0) kept

-- what is kept: a colouring of as many members as are counted, with room for all of them and more in each list, and the
-- bits of their movers
pub record IsGraph {C : Type 0} (number : C → ℕ) (kept : List (Pended C)) (words : List ℕ) (size : Size) : Type 0 where
  pub colouring : IsColouring number (lists_of kept)
  pub bits : AreTakenColours (lists_of kept) words
  pub members : size.count ≡ length (all_members (lists_of kept))
  pub few : size.count ≤ size.total
  pub rooms : HaveRoom size.total kept
  pub slots : size.slots ≤ length words

-- a graph of which no edit is put off where it says so
pub record IsKeptGraph {C : Type 0} (number : C → ℕ) (kept : List (Pended C)) (words : List ℕ) (size : Size) (flushed : Bool) : Type 0 where
  pub graph : IsGraph number kept words size
  pub rest : flushed ≡ true → AreAtRest kept
