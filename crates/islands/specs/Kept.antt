-- What contracts see of the islands and of the scratch of a split.
use Rattle.std.specs.Prelude.{ℕ}
use Rattle.islands.specs.Labels.{Labels}

-- the labels by slot, and the bound below which a mover's slot must be so that it may be added with no memory
pub record Grouped : Type 0 where
  pub labels : Labels
  pub room : ℕ

-- for how many slots and links there is room in a split
pub record Scratch : Type 0 where
  pub slots : ℕ
  pub links : ℕ
