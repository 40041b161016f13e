-- What a tree is seen as.
use Rattle.std.specs.Prelude.{ℕ, List}
use Rattle.fixed_geom.specs.declared.boxes.Box2.{Box2}
use Rattle.box_tree_base.specs.declared.leaves.Leaf.{Leaf}

-- the leaves from left to right, how many forks stand above the deepest, and a box round all
pub record Outline : Type 0 where
  pub leaves : List Leaf
  pub height : ℕ
  pub bounds : Box2
