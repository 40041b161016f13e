-- Items of a list that follow one another, and the pieces of a list that is cut up.
use Rattle.std.specs.Prelude.{ℕ, List, drop, take}
use Rattle.std.specs.List.{flat_map}

-- so many items, from the place `first` on
pub record PieceRange : Type 0 where
  pub first : ℕ
  pub count : ℕ

-- the items of a range, as far as there are any
abbrev pub items_in : List ℕ → PieceRange → List ℕ
items_in items r = take r.count (drop r.first items)

-- the items of pieces, one behind the other
abbrev pub items_of : {P : Type 0} → (P → PieceRange) → List ℕ → List P → List ℕ
items_of range items pieces = flat_map (λ p. items_in items (range p)) pieces
