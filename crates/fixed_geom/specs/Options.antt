-- Trusted: The best of a list.
use Rattle.std.specs.Prelude.{Bool, not, List, Option, find}
use Rattle.std.specs.List.{list_any}

-- the first that none of the list beats
abbrev pub unbeaten : {X : Type 0} → (X → X → Bool) → List X → Option X
unbeaten beats xs = find (λ x. not (list_any (λ y. beats y x) xs)) xs
