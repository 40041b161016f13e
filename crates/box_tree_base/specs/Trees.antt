-- What a node is seen as, and what holds of it.
use Rattle.std.specs.Prelude.{◌≡◌, ◌≢◌, ℕ, ◌+◌, ◌<◌, ◌≤◌, max, [], ◌∷◌, ◌++◌, length}
use Rattle.fixed_geom.specs.declared.boxes.Box2.{Box2}
use Rattle.box_tree_base.specs.Depths.{least_leaves}
use Rattle.box_tree_base.specs.Outline.{Outline}
use Rattle.box_tree_base.specs.Joins.{joined, IsBounded}
use Rattle.box_tree_base.specs.Lists.{Each}
use Rattle.box_tree_base.specs.declared.leaves.Leaf.{Leaf}
use Rattle.box_tree_base.specs.declared.tree.Node.{Node}
use Rattle.box_tree_base.specs.declared.tree.Node.TheVariants.{Tip, Fork}

abbrev pub outline : Node → Outline
outline (Tip leaf) = record { leaves = leaf ∷ []; height = 0; bounds = leaf.bounds }
outline (Fork left stem right) = record { leaves = left.value.leaves ++ right.value.leaves; height = stem.height; bounds = joined stem.left stem.right }

abbrev pub IsBelow : ℕ → Leaf → Type 0
IsBelow split leaf = leaf.rank < split

abbrev pub IsFrom : ℕ → Leaf → Type 0
IsFrom split leaf = split ≤ leaf.rank

abbrev pub IsOther : ℕ → Leaf → Type 0
IsOther rank leaf = leaf.rank ≢ rank

-- neither number is more than this above the other
abbrev pub DifferByAtMost : ℕ → ℕ → ℕ → Type 0
DifferByAtMost by l r = (l ≤ r + by) × (r ≤ l + by)

-- the two sides of a fork
pub record AreSides (left right : Outline) (split high : ℕ) : Type 0 where
  pub below : Each (IsBelow split) left.leaves
  pub from : Each (IsFrom split) right.leaves
  pub some_left : 0 < length left.leaves
  pub some_right : 0 < length right.leaves
  pub balanced : DifferByAtMost 1 left.height right.height
  pub height : high ≡ max left.height right.height + 1

abbrev pub AreSidesOf : Node → Type 0
AreSidesOf (Tip leaf) = Unit {0}
AreSidesOf (Fork left stem right) = AreSides left.value right.value stem.split stem.height

-- each side lies in the box that the fork keeps of it
pub record AreBoxed (left right : Outline) (lower upper : Box2) : Type 0 where
  pub left_side : Each (IsBounded lower) left.leaves
  pub right_side : Each (IsBounded upper) right.leaves

abbrev pub AreBoxedIn : Node → Type 0
AreBoxedIn (Tip leaf) = Unit {0}
AreBoxedIn (Fork left stem right) = AreBoxed left.value right.value stem.left stem.right

pub record IsTree (n : Node) : Type 0 where
  pub sides : AreSidesOf n
  pub boxed : AreBoxedIn n
  pub round : Each (IsBounded (outline n).bounds) (outline n).leaves
  pub many : least_leaves (outline n).height ≤ length (outline n).leaves
  pub below : (outline n).height < length (outline n).leaves

-- the height h that a fork of these heights settles to
abbrev pub IsForkHeight : ℕ → ℕ → ℕ → Type 0
IsForkHeight l r h = (max l r ≤ h) × (h ≤ max l r + 1) × (DifferByAtMost 1 l r → h ≡ max l r + 1)
