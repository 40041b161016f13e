-- Two lists of slots, both ascending, that are passed from the lesser slot to the greater.
use Rattle.std.specs.Prelude.{◌≡◌, ◌⊎◌, ℕ, ◌<◌, ◌≤◌, ◌+◌, List, length}
use Rattle.world_core_base.specs.Listing.{IsIn}
use Rattle.world_core_base.specs.declared.merging.Passed.{Passed}
use Rattle.world_core_base.specs.declared.merging.Next.{Next}

-- the slot stands in one of the lists, and isn't passed
abbrev pub IsLeft : List ℕ → List ℕ → Passed → ℕ → Type 0
IsLeft slots added passed slot = IsIn slots passed.slots slot ⊎ IsIn added passed.added slot

-- how many places are passed, which are there in both lists
pub record HavePassed (slots added : List ℕ) (passed : Passed) (n : ℕ) : Type 0 where
  pub in_slots : passed.slots ≤ length slots
  pub in_added : passed.added ≤ length added
  pub count : passed.slots + passed.added ≡ n

-- no slot that is left is below the next, and those above it are left when that is passed
pub record IsNext (slots added : List ℕ) (passed : Passed) (next : Next) : Type 0 where
  pub low : (slot : ℕ) → IsLeft slots added passed slot → next.slot ≤ slot
  pub later : (slot : ℕ) → IsLeft slots added passed slot → next.slot < slot → IsLeft slots added next.passed slot
