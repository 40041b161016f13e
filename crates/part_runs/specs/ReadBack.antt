-- The bodies of all parts read back into one list, and the rows of each part among all.
use Rattle.std.specs.Prelude.{◌≡◌, ℕ, cond, nat_eq, List, [], ◌∷◌, ◌++◌, map, slice_index_or}
use Rattle.momenta.specs.declared.state.BodyState.{BodyState}
use Rattle.colour_solver.specs.declared.row_visits.Slots.{Slots}
use Rattle.colour_solver.specs.Colour.{is_mover}
use Rattle.colour_solver.specs.States.{nobody}
use Rattle.part_runs.specs.Hidden.{part_at, part_of}

-- the part from which a slot is read back: its own where a mover is, else the first
abbrev pub source : (ℕ → ℕ) → List BodyState → ℕ → ℕ
source g states slot = cond (is_mover states slot) (g slot) 0

-- each of these bodies, which stood so at first, is that of its part
abbrev pub AreBodiesBack : (ℕ → ℕ) → List BodyState → (ℕ → List BodyState) → List BodyState → Type 0
AreBodiesBack g first part now = (slot : ℕ) → slice_index_or now slot nobody ≡ slice_index_or (part (source g first slot)) slot nobody

-- the parts of the rows that have colours, and then of those that have none
abbrev pub owners_of : {R : Type 0} → (R → Slots) → List ℕ → List BodyState → List R → List R → List ℕ
owners_of at home first coloured left = map (part_of at (part_at home) first) coloured ++ map (λ r. 0) left

-- the rows whose part is k, their parts being `owners`
abbrev pub picked : {R : Type 0} → ℕ → List ℕ → List R → List R
picked k [] rows = []
picked k (o ∷ owners) [] = []
picked k (o ∷ owners) (r ∷ rows) = cond (nat_eq o k) (r ∷ picked k owners rows) (picked k owners rows)
