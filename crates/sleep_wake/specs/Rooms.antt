-- When the constraints of an island may be given colours with no memory.
use Rattle.std.specs.Prelude.{◌≡◌, ℕ, Some, ◌≤◌, List, length, None, Contains}
use Rattle.graph_colours.specs.declared.member.Member.{Member}
use Rattle.graph_colours.specs.Movers.{AreBelow}
use Rattle.graph_colours.specs.Members.{AreRising}
use Rattle.graph_colours.specs.Colours.{all_members}
use Rattle.graph_colours.specs.FoundMembers.{colour_of}
use Rattle.graph_colours.specs.Own.{AreOwn}

-- none has a colour yet, and there is room for all
pub record CanPlace {C : Type 0} (number : C → ℕ) (ms : List (Member C)) (lists : List (List (Member C))) (room slots : ℕ) : Type 0 where
  pub rising : AreRising number ms
  pub absent : (m : Member C) → Contains ms m → colour_of number m.id lists ≡ None
  pub below : (m : Member C) → Contains ms m → AreBelow slots m.movers
  pub enough : length ms ≤ room

-- those that have a colour have the movers that they have among the ties
abbrev pub OwnMovers : {C : Type 0} → (C → ℕ) → List (Member C) → List (List (Member C)) → Type 0
OwnMovers {C} number ties lists = (m : Member C) → Contains ties m → AreOwn number m.id (Some m.movers) (all_members lists)
