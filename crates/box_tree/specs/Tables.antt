-- The entries by key, and the tree that goes with them.
use Rattle.std.specs.Prelude.{◌≡◌, ℕ, zero, suc, cond, List, [], ◌∷◌, Option, Some, None, ◌==◌}
use Rattle.std.specs.List.{IsDistinct}
use Rattle.fixed_geom.specs.Boxes.{overlaps}
use Rattle.fixed_geom.specs.declared.boxes.Box2.{Box2}
use Rattle.box_tree_base.specs.Lists.{IsIn}
use Rattle.box_tree_base.specs.declared.leaves.Leaf.{Leaf}
use Rattle.box_tree.specs.declared.key_entries.KeyEntry.{KeyEntry}

-- the keys from this one on whose loose boxes overlap b, ascending
abbrev pub loose_keys : Box2 → ℕ → List (Option KeyEntry) → List ℕ
loose_keys b key [] = []
loose_keys b key (None ∷ entries) = loose_keys b (suc key) entries
loose_keys b key (Some entry ∷ entries) = cond (overlaps entry.bounds b) (key ∷ loose_keys b (suc key) entries) (loose_keys b (suc key) entries)

abbrev pub keys_of : List Leaf → List ℕ
keys_of [] = []
keys_of (leaf ∷ leaves) = leaf.key ∷ keys_of leaves

abbrev pub entry_of : Leaf → KeyEntry
entry_of leaf = record { rank = leaf.rank; bounds = leaf.bounds }

abbrev pub leaf_of : ℕ → KeyEntry → Leaf
leaf_of key entry = record { key = key; rank = entry.rank; bounds = entry.bounds }

-- the entry of the key, where it has one
abbrev pub entry_at : List (Option KeyEntry) → ℕ → Option KeyEntry
entry_at [] key = None
entry_at (o ∷ entries) zero = o
entry_at (o ∷ entries) (suc key) = entry_at entries key

-- the tree has a leaf for each entry, and no other
pub record IsKept (leaves : List Leaf) (entries : List (Option KeyEntry)) : Type 0 where
  pub sound : (leaf : Leaf) → IsIn leaf leaves → entry_at entries leaf.key ≡ Some (entry_of leaf)
  pub complete : (key : ℕ) (entry : KeyEntry) → entry_at entries key ≡ Some entry → IsIn (leaf_of key entry) leaves
  pub distinct : IsDistinct (λ x y. x == y) (keys_of leaves)
