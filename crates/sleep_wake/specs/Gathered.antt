-- The constraints of an island, from those of its movers.
use Rattle.std.specs.Prelude.{ℕ, ◌||◌, Bool, false, List, [], ◌∷◌, cond, Option, Some, None}
use Rattle.graph_colours.specs.declared.member.Member.{Member}
use Rattle.graph_colours.specs.declared.member.Movers.{Movers}
use Rattle.islands.specs.Links.{Edges}
use Rattle.islands.specs.Labels.{Labels, label_at, is_in}
use Rattle.sleep_wake.specs.Sources.{is_first}

-- the constraints that were gathered, and for how many constraints and slots there is room
pub record Gathered (C : Type 0) : Type 0 where
  pub list : List (Member C)
  pub ties : ℕ
  pub slots : ℕ

-- the constraint's first mover is in one of the slots
abbrev pub is_first_of : {C : Type 0} → List ℕ → Member C → Bool
is_first_of [] m = false
is_first_of (slot ∷ slots) m = is_first slot m || is_first_of slots m

-- the link of one constraint, if it has one and that is of the island
abbrev pub second_edge : Labels → ℕ → ℕ → Option ℕ → Edges
second_edge labels name first None = []
second_edge labels name first (Some second) = cond (is_in (label_at labels first) name) ((first, second) ∷ []) []

abbrev pub edges_of_one : Labels → ℕ → Movers → Edges
edges_of_one labels name m = second_edge labels name m.first m.second
