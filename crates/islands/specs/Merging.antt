-- A split as it runs: each mover of the island stands alone, and then the ends of each link are merged.
use Rattle.std.specs.Prelude.{ℕ, suc, [], ◌∷◌, Some, Option, cond}
use Rattle.islands.specs.declared.label.Label.{Label}
use Rattle.islands.specs.Links.{Edges}
use Rattle.islands.specs.Labels.{Labels, is_in, own_label, merged}

abbrev pub alone : ℕ → ℕ → Option Label → Option Label
alone name slot o = cond (is_in o name) (Some (own_label slot)) o

-- where the list begins with this slot
abbrev pub scattered_from : ℕ → ℕ → Labels → Labels
scattered_from slot name [] = []
scattered_from slot name (o ∷ labels) = alone name slot o ∷ scattered_from (suc slot) name labels

abbrev pub merged_all : Labels → Edges → Labels
merged_all labels [] = labels
merged_all labels (e ∷ edges) = merged_all (merged labels e.0 e.1) edges
