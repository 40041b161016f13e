-- Numbers of which none is twice in a list.
use Rattle.std.specs.Prelude.{ℕ, List, [], ◌∷◌, Contains}

-- no number is twice in the list
abbrev pub AreOnce : List ℕ → Type 0
AreOnce [] = Unit {0}
AreOnce (id ∷ ids) = (Contains ids id → ⊥) × AreOnce ids
