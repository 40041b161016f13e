-- Numbered sets of ids: what contracts see of them.
use Rattle.std.specs.Prelude.{◌≡◌, ◌≢◌, ◌≤◌, ℕ, List, [], ◌∷◌, Some, Contains, slice_get}
use Rattle.std.specs.List.{slice_index_or}
use Rattle.std.specs.List.Sorted.{IsPermutation}

-- by number the ids of each set, in no order that is promised; below which number those of ids have to be; and for how
-- many ids in all each set has room with no memory
pub record Packs (X : Type 0) : Type 0 where
  pub sets : List (List X)
  pub ids : ℕ
  pub capacities : List ℕ

-- the ids of a set; none where no set has the number
abbrev pub list_at : {X : Type 0} → List (List X) → ℕ → List X
list_at sets set = slice_index_or sets set []

abbrev pub capacity_at : List ℕ → ℕ → ℕ
capacity_at capacities set = slice_index_or capacities set 0

-- the id is in no set
abbrev pub IsAbsent : {X : Type 0} → List (List X) → X → Type 0
IsAbsent sets id = (set : ℕ) → Contains (list_at sets set) id → ⊥

-- every set but one has the ids that it had
abbrev pub AreSameBeside : {X : Type 0} → List (List X) → List (List X) → ℕ → Type 0
AreSameBeside old new set = (other : ℕ) → other ≢ set → list_at new other ≡ list_at old other

-- the set has one id more, and all others have what they had
pub record IsPut {X : Type 0} (old new : List (List X)) (set : ℕ) (id : X) : Type 0 where
  pub more : IsPermutation (list_at new set) (id ∷ list_at old set)
  pub others : AreSameBeside old new set

-- the set has one id less, and all others have what they had
pub record IsTaken {X : Type 0} (old new : List (List X)) (set : ℕ) (id : X) : Type 0 where
  pub less : IsPermutation (list_at old set) (id ∷ list_at new set)
  pub others : AreSameBeside old new set

-- the one set has the id less, and then the other has it more
pub record IsShifted {X : Type 0} (old new : List (List X)) (from to : ℕ) (id : X) : Type 0 where
  pub between : List (List X)
  pub taken : IsTaken old between from id
  pub put : IsPut between new to id

-- no set has less room than it had
abbrev pub HaveAtLeast : List ℕ → List ℕ → Type 0
HaveAtLeast old new = (set : ℕ) → capacity_at old set ≤ capacity_at new set

-- no id stands twice in all sets
abbrev pub EachOnce : {X : Type 0} → List (List X) → Type 0
EachOnce {X} sets = (s t p q : ℕ) (id : X) → slice_get (list_at sets s) p ≡ Some id → slice_get (list_at sets t) q ≡ Some id → (s ≡ t) × (p ≡ q)
