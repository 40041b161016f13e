-- Numbered sets of numbers, each a thread through what is in it: what contracts see of them, and how they are kept.
use Rattle.std.specs.Prelude.{◌≡◌, ◌==◌, ◌<◌, ◌≤◌, ℕ, zero, suc, cond, nat_lt, List, [], ◌∷◌, length, map, Contains, slice_set}
use Rattle.std.specs.List.{slice_index_or}
use Rattle.packed_sets.specs.declared.linked_sets.Link.{Link}
use Rattle.packed_sets.specs.declared.items.TheConstants.{MAX_ITEMS, NO_ITEM}
use Rattle.packed_sets.specs.Packs.{list_at}
use Rattle.packed_sets.specs.Once.{AreOnce}

-- by number the ids of each set, in the order in which they are told; and below which number those of ids have to be
pub record Linked : Type 0 where
  pub sets : List (List ℕ)
  pub ids : ℕ

-- the first id of a set
abbrev pub head_at : List ℕ → ℕ → ℕ
head_at heads set = slice_index_or heads set NO_ITEM

-- ---- what is beside an id

abbrev pub link_at : List Link → ℕ → Link
link_at links id = slice_index_or links id (record { before = NO_ITEM; behind = NO_ITEM })

-- the id before one in its set
abbrev pub before_at : List Link → ℕ → ℕ
before_at links id = (link_at links id).before

-- the id behind it
abbrev pub behind_at : List Link → ℕ → ℕ
behind_at links id = (link_at links id).behind

-- the links once another id is before one, if that is an id
abbrev pub with_before : List Link → ℕ → ℕ → List Link
with_before links id before = slice_set links id (record { before = before; behind = behind_at links id })

-- and once another is behind one
abbrev pub with_behind : List Link → ℕ → ℕ → List Link
with_behind links id behind = slice_set links id (record { before = before_at links id; behind = behind })

-- the heads once a set begins with another id, if none was before the one that went
abbrev pub with_head : List ℕ → ℕ → ℕ → ℕ → List ℕ
with_head heads set before behind = cond (before == NO_ITEM) (slice_set heads set behind) heads

-- ---- the ids of a set

-- the ids from one on, one behind the other, at most so many
abbrev pub ids_from : ℕ → List Link → ℕ → List ℕ
ids_from zero links at = []
ids_from (suc n) links at = cond (nat_lt at (length links)) (at ∷ ids_from n links (behind_at links at)) []

-- by set its ids
abbrev pub sets_of : List Link → List ℕ → List (List ℕ)
sets_of links heads = map (ids_from (length links) links) heads

-- ---- what is kept

-- from an id on these follow, one behind the other and none behind the last, and each tells the one before it
abbrev pub IsChain : List Link → ℕ → ℕ → List ℕ → Type 0
IsChain links before at [] = at ≡ NO_ITEM
IsChain links before at (id ∷ ids) = (at ≡ id) × ((before_at links id ≡ before) × IsChain links id (behind_at links id) ids)

-- these are the ids of a set that begins with one
pub record IsLinked (links : List Link) (at : ℕ) (ids : List ℕ) : Type 0 where
  pub chain : IsChain links NO_ITEM at ids
  pub once : AreOnce ids
  pub below : (id : ℕ) → Contains ids id → id < length links

-- each set is a thread, and no id is in two
pub record AreLinked (links : List Link) (heads : List ℕ) : Type 0 where
  pub few : length links ≤ MAX_ITEMS
  pub linked : (set : ℕ) → IsLinked links (head_at heads set) (list_at (sets_of links heads) set)
  pub apart : (s t id : ℕ) → Contains (list_at (sets_of links heads) s) id → Contains (list_at (sets_of links heads) t) id → s ≡ t
