-- The answers at items, and those that are awaited.
use Rattle.std.specs.Prelude.{◌≡◌, Bool, true, List, [], ◌++◌, Option, Some, None, map, reverse, All}
use Rattle.std.specs.List.{flat_map}

-- the answers at the items, in their order
abbrev pub answers : {W X Y : Type 0} → (W → X → Y) → W → List X → List Y
answers answer work items = map (answer work) items

abbrev pub AreAccepted : {W X : Type 0} → (W → X → Bool) → W → List X → Type 0
AreAccepted accepts work items = All (λ x. accepts work x ≡ true) items

-- ---- Inner

-- what is there already, and what comes of the items on a stack, the last of which comes first
abbrev pub owed : {W X Y : Type 0} → (W → X → Y) → W → List X → List Y → List Y
owed answer work items outs = outs ++ answers answer work (reverse items)

-- what comes of a slip that may be back
abbrev pub returned : {S Y : Type 0} → (S → List Y) → Option S → List Y
returned owed None = []
returned owed (Some s) = owed s

-- what comes of a piece: what was asked, and where nothing is, what is back
abbrev pub promised : {Y : Type 0} → Option (List Y) → List Y → List Y
promised None back = back
promised (Some ys) back = ys

-- what each gives, one behind the other
abbrev pub gathered : {D Y : Type 0} → List D → (D → List Y) → List Y
gathered ds f = flat_map f ds
