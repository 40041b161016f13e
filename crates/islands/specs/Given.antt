-- Labels that are given slot by slot.
use Rattle.std.specs.Prelude.{◌≡◌, ℕ, ◌<◌, ◌⊎◌, length, Option, Some, None, slice_set}
use Rattle.islands.specs.declared.label.Label.{Label}
use Rattle.islands.specs.Labels.{Labels, label_at}
use Rattle.islands.specs.Partition.{IsPartition}

-- the label's name is the slot itself, or that of a lower mover that has the label
abbrev pub IsNamed : Labels → ℕ → Label → Type 0
IsNamed labels slot l = (l.name ≡ slot) ⊎ ((l.name < slot) × (label_at labels l.name ≡ Some l))

-- a mover with the label comes into the slot
abbrev pub labels_with : Labels → ℕ → Label → Labels
labels_with labels slot l = slice_set labels slot (Some l)

abbrev pub labels_with_any : Labels → ℕ → Option Label → Labels
labels_with_any labels slot None = labels
labels_with_any labels slot (Some l) = labels_with labels slot l

-- the slot is empty, and a mover with the label may come into it
pub record CanCome (labels : Labels) (slot : ℕ) (l : Label) : Type 0 where
  pub partition : IsPartition labels
  pub fresh : label_at labels slot ≡ None
  pub there : slot < length labels
  pub named : IsNamed labels slot l

abbrev pub IsNext : Labels → ℕ → Option Label → Type 0
IsNext labels slot o = (l : Label) → o ≡ Some l → CanCome labels slot l
