-- The leaves of a tree that may be empty.
use Rattle.std.specs.Prelude.{ℕ, ◌+◌, List, [], ◌∷◌}
use Rattle.box_tree_base.specs.Lists.{IsAdded}
use Rattle.box_tree_base.specs.declared.leaves.Leaf.{Leaf}
use Rattle.box_tree_base.specs.declared.tree.Tree.{Tree}

-- a list of at most one tree
abbrev pub leaves_of : List Tree → List Leaf
leaves_of [] = []
leaves_of (tree ∷ others) = tree.leaves

-- how many nodes stand on the longest way down
abbrev pub depth_of : List Tree → ℕ
depth_of [] = 0
depth_of (tree ∷ others) = tree.height + 1

-- one leaf was taken out, and another put in
pub record IsMoved (out in_stead : Leaf) (old new : List Leaf) : Type 0 where
  pub rest : List Leaf
  pub taken : IsAdded out rest old
  pub put : IsAdded in_stead rest new
