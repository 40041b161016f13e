-- Where each id stands, and what is kept of sets and notes.
use Rattle.std.specs.Prelude.{◌≡◌, ◌≢◌, ◌<◌, ◌^◌, ℕ, suc, List, ◌∷◌, length, map, Option, Some, None, Contains, slice_get, slice_set}
use Rattle.std.specs.List.{slice_index_or}
use Rattle.std.specs.List.Sorted.{IsPermutation}
use Rattle.packed_sets.specs.declared.spots.Spot.{Spot}
use Rattle.packed_sets.specs.Packs.{list_at, AreSameBeside}

abbrev pub spot_at : ℕ → ℕ → Spot
spot_at set place = record { set = set; place = place }

-- where an id stands, by the notes; nowhere, if it is beyond them
abbrev pub spot_of : List (Option Spot) → ℕ → Option Spot
spot_of notes id = slice_index_or notes id None

-- the numbers of the ids of each set
abbrev pub numbers_of : {X : Type 0} → (X → ℕ) → List (List X) → List (List ℕ)
numbers_of number sets = map (map number) sets

-- each id's spot is noted, and where an id's spot is noted it stands
pub record IsPacked (sets : List (List ℕ)) (spots : ℕ → Option Spot) : Type 0 where
  pub known : (id s p : ℕ) → slice_get (list_at sets s) p ≡ Some id → spots id ≡ Some (spot_at s p)
  pub there : (id s p : ℕ) → spots id ≡ Some (spot_at s p) → slice_get (list_at sets s) p ≡ Some id

-- what is kept: the notes are those of the ids that stand in sets, by their numbers, which have 32 bits
pub record IsKept (sets : List (List ℕ)) (notes : List (Option Spot)) : Type 0 where
  pub packed : IsPacked sets (spot_of notes)
  pub small : (id s : ℕ) → Contains (list_at sets s) id → id < 2 ^ 32

-- a list without the id at a place, to which the last one has moved
pub record IsSwappedOut {X : Type 0} (old new : List X) (place : ℕ) (id : X) : Type 0 where
  pub there : slice_get old place ≡ Some id
  pub same : IsPermutation old (id ∷ new)
  pub short : length old ≡ suc (length new)
  pub stays : (q : ℕ) → q ≢ place → q < length new → slice_get new q ≡ slice_get old q
  pub moved : place < length new → slice_get new place ≡ slice_get old (length new)

-- the sets without the id at a spot
pub record IsOut {X : Type 0} (old new : List (List X)) (at : Spot) (id : X) : Type 0 where
  pub long : length new ≡ length old
  pub swapped : IsSwappedOut (list_at old at.set) (list_at new at.set) at.place id
  pub others : AreSameBeside old new at.set

-- the notes once that of the id that stands at a spot, if one does, is put right
abbrev pub renoted : Option ℕ → Spot → List (Option Spot) → List (Option Spot)
renoted None at notes = notes
renoted (Some id) at notes = slice_set notes id (Some at)

-- the notes once all ids of a list, which stand in their order in one set, are put right
pub record AreRenoted (ids : List ℕ) (set : ℕ) (old new : List (Option Spot)) : Type 0 where
  pub own : (id place : ℕ) → slice_get ids place ≡ Some id → spot_of new id ≡ Some (spot_at set place)
  pub others : (id : ℕ) → (Contains ids id → ⊥) → spot_of new id ≡ spot_of old id
  pub long : length new ≡ length old
