-- What a box tree keeps: a tree of loose boxes, the entries by key, and the boxes by key.
use Rattle.std.specs.Prelude.{◌≡◌, ℕ, suc, ◌≤◌, ◌%◌, List, [], ◌∷◌, length, Option, Some, None}
use Rattle.fixed_geom.specs.Boxes.{Contains}
use Rattle.fixed_geom.specs.declared.boxes.Box2.{Box2}
use Rattle.box_tree_base.specs.Roots.{leaves_of}
use Rattle.box_tree_base.specs.declared.leaves.Leaf.{Leaf}
use Rattle.box_tree.specs.Tables.{IsKept}
use Rattle.box_tree.specs.declared.key_entries.TheConstants.{MAX_KEYS}
use Rattle.box_tree.specs.declared.key_entries.KeyEntry.{KeyEntry}
use Rattle.box_tree.specs.declared.boxes.BoxTree.TheInside.{Inside}

-- the entry's box is round the key's own, and its rank ends in the key
pub record IsEntryOf (key : ℕ) (entry : KeyEntry) (bounds : Box2) : Type 0 where
  pub inside : Contains entry.bounds bounds
  pub rank : entry.rank % MAX_KEYS ≡ key

abbrev pub IsStanding : ℕ → Option KeyEntry → Option Box2 → Type 0
IsStanding key None None = Unit {0}
IsStanding key None (Some bounds) = ⊥
IsStanding key (Some entry) None = ⊥
IsStanding key (Some entry) (Some bounds) = IsEntryOf key entry bounds

-- each key from this one on has an entry just where it has a box
abbrev pub AreStanding : ℕ → List (Option KeyEntry) → List (Option Box2) → Type 0
AreStanding key [] [] = Unit {0}
AreStanding key [] (b ∷ boxes) = ⊥
AreStanding key (o ∷ entries) [] = ⊥
AreStanding key (o ∷ entries) (b ∷ boxes) = IsStanding key o b × AreStanding (suc key) entries boxes

-- how many keys have an entry
abbrev pub filled : List (Option KeyEntry) → ℕ
filled [] = 0
filled (None ∷ entries) = filled entries
filled (Some entry ∷ entries) = suc (filled entries)

pub record IsIndex (leaves : List Leaf) (entries : List (Option KeyEntry)) (boxes : List (Option Box2)) : Type 0 where
  pub kept : IsKept leaves entries
  pub standing : AreStanding 0 entries boxes
  pub count : length leaves ≡ filled entries
  pub few : length boxes ≤ MAX_KEYS

pub record IsBoxTree (a : Inside) : Type 0 where
  pub index : IsIndex (leaves_of a.root.items) a.entries.items a.boxes.items
