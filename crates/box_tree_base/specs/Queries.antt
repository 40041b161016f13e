-- What a walk over all leaves finds.
use Rattle.std.specs.Prelude.{ℕ, cond, List, [], ◌∷◌}
use Rattle.fixed_geom.specs.Boxes.{overlaps}
use Rattle.fixed_geom.specs.declared.boxes.Box2.{Box2}
use Rattle.box_tree_base.specs.declared.leaves.Leaf.{Leaf}

-- the keys of the leaves whose boxes overlap b
abbrev pub keys_over : Box2 → List Leaf → List ℕ
keys_over b [] = []
keys_over b (leaf ∷ leaves) = cond (overlaps leaf.bounds b) (leaf.key ∷ keys_over b leaves) (keys_over b leaves)
