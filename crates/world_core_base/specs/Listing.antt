-- The slots of a group of bodies, in a list that need not be up to date: slots that may have come to be listed stand
-- beside it, and what is listed beside those of the group means nothing.
use Rattle.std.specs.Prelude.{◌≡◌, ◌⊎◌, ℕ, ◌<◌, ◌≤◌, Bool, true, List, length, slice_index_or}
use Rattle.std.specs.List.{AllPairs}
use Rattle.momenta.specs.declared.state.BodyState.{BodyState}
use Rattle.colour_solver.specs.States.{is_carried, moves, nobody, places_from}
use Rattle.world_core_base.specs.declared.slot_list.Group.{Group}
use Rattle.world_core_base.specs.declared.slot_list.Group.TheVariants.{Awake, Carried}

abbrev pub AreSlotsRising : List ℕ → Type 0
AreSlotsRising slots = AllPairs (λ s later. s < later) slots

-- whether a body is in the group
abbrev pub is_of : Group → BodyState → Bool
is_of Awake = moves
is_of Carried = is_carried

-- the slot stands in the list, in no place before this one
pub record IsIn (slots : List ℕ) (first slot : ℕ) : Type 0 where
  pub place : ℕ
  pub from : first ≤ place
  pub below : place < length slots
  pub is : slice_index_or slots place 0 ≡ slot

-- what contracts see of such a list: the slots that are listed and those beside them, for how many bodies in all it has
-- room, and whether it may be out of date: if `pending` is 0, it isn't
pub record Listing : Type 0 where
  pub slots : List ℕ
  pub added : List ℕ
  pub capacity : ℕ
  pub pending : ℕ

abbrev pub IsListed : Listing → ℕ → Type 0
IsListed l slot = IsIn l.slots 0 slot ⊎ IsIn l.added 0 slot

-- each slot whose body passes the test is listed, and no other is where nothing is put off
pub record AreListed (is : BodyState → Bool) (states : List BodyState) (l : Listing) : Type 0 where
  pub all : (slot : ℕ) → is (slice_index_or states slot nobody) ≡ true → IsListed l slot
  pub exact : l.pending ≡ 0 → l.slots ≡ places_from is 0 states

-- the list for states of which that in one slot may be another than before
pub record IsRelisted (is : BodyState → Bool) (states : List BodyState) (slot : ℕ) (old new : Listing) : Type 0 where
  pub own : is (slice_index_or states slot nobody) ≡ true → IsListed new slot
  pub others : (other : ℕ) → is (slice_index_or states other nobody) ≡ true → IsListed old other → IsListed new other
  pub exact : new.pending ≡ 0 → new.slots ≡ places_from is 0 states

-- in each slot but this one the states are the same
abbrev pub AreSameBut : ℕ → List BodyState → List BodyState → Type 0
AreSameBut slot before now = (other : ℕ) → (other ≡ slot → ⊥) → slice_index_or now other nobody ≡ slice_index_or before other nobody

-- what a list keeps: it ascends, and there is room for all in the list and where it is made anew
pub record IsSlotList (slots : List ℕ) (capacity slots_room spare_room : ℕ) : Type 0 where
  pub rising : AreSlotsRising slots
  pub for_slots : capacity ≤ slots_room
  pub for_spare : capacity ≤ spare_room
