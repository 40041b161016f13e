-- Each side of a fork is lower than the fork.
use Rattle.std.specs.Prelude.{◌≤◌, max}
use Rattle.std.proofs.Common.{arith}
use Rattle.box_tree_base.specs.Trees.{outline, IsTree}
use Rattle.box_tree_base.specs.declared.tree.Node.{Node}
use Rattle.box_tree_base.specs.declared.tree.Node.TheVariants.{Tip, Fork}
use Rattle.box_tree_base.specs.declared.tree.Tree.TheDeep.{deep-Node}

pub height_falls : (n : Node) → IsTree n → max (deep-Node n) 0 ≤ (outline n).height
height_falls (Tip leaf) h = omega arith
height_falls (Fork left stem right) h = omega (arith, h.sides.height)
