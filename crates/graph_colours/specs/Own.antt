-- The movers that are told of a constraint.
use Rattle.std.specs.Prelude.{◌≡◌, ℕ, List, All, Option, Some, None}
use Rattle.graph_colours.specs.declared.member.Movers.{Movers}
use Rattle.graph_colours.specs.declared.member.Member.{Member}

-- a member that has the id has these movers, where they are told
abbrev pub AreOwn : {C : Type 0} → (C → ℕ) → C → Option Movers → List (Member C) → Type 0
AreOwn number id None ms = Unit {0}
AreOwn number id (Some movers) ms = All (λ m. number m.id ≡ number id → m.movers ≡ movers) ms
