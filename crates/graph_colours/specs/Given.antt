-- Lists of members that make a colouring, as they are given.
use Rattle.std.specs.Prelude.{ℕ, List, map, All, Vec, vec_items}
use Rattle.std.specs.declared.alloc.Global.{Global}
use Rattle.graph_colours.specs.declared.member.Member.{Member}
use Rattle.graph_colours.specs.Movers.{AreBelow}

-- the lists as they are kept
abbrev pub members_of : {C : Type 0} → List (Vec (Member C) Global) → List (List (Member C))
members_of lists = map vec_items lists

-- the movers' slots of all members are below the bound
abbrev pub AreAllBelow : {C : Type 0} → ℕ → List (Member C) → Type 0
AreAllBelow slots ms = All (λ m. AreBelow slots m.movers) ms
