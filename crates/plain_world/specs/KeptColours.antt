-- Trusted: the constraints of each colour, as they are kept.
use Rattle.std.specs.Prelude.{ℕ, List, [], map, slice_index_or, Vec, vec_items}
use Rattle.std.specs.declared.alloc.Global.{Global}
use Rattle.plain_world.specs.declared.constraint.Constraint.{Constraint}

-- the constraints of a colour: none where there is no such colour
abbrev pub members_at : List (List Constraint) → ℕ → List Constraint
members_at colours colour = slice_index_or colours colour []

-- the same as they are kept
abbrev pub constraints_of : List (Vec Constraint Global) → List (List Constraint)
constraints_of colours = map vec_items colours
