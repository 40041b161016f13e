-- Marks by slot, and the slots that are marked.
use Rattle.std.specs.Prelude.{◌≡◌, ℕ, zero, suc, ◌<◌, ◌≤◌, Bool, true, false, List, [], ◌∷◌, All, Contains, length, slice_index_or}

-- the list has each slot within the marks that is marked, and no other
pub record AreListed (marks : List Bool) (slots : List ℕ) : Type 0 where
  pub all : (slot : ℕ) → slot < length marks → slice_index_or marks slot true ≡ true → Contains slots slot
  pub only : All (λ slot. slice_index_or marks slot true ≡ true) slots
  pub within : All (λ slot. slot < length marks) slots
  pub few : length slots ≤ length marks

-- how many slots are marked
abbrev pub marked_count : List Bool → ℕ
marked_count [] = zero
marked_count (true ∷ marks) = suc (marked_count marks)
marked_count (false ∷ marks) = marked_count marks

-- what is kept: the list of the marked slots, each once, with room for all
pub record IsMarks (marks : List Bool) (slots : List ℕ) (capacity : ℕ) : Type 0 where
  pub listed : AreListed marks slots
  pub once : length slots ≡ marked_count marks
  pub room : length marks ≤ capacity
