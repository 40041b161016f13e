-- Bodies that are handed on: what a part sends to each other part before a stage, and what it has then.
use Rattle.std.specs.Prelude.{◌≡◌, ℕ, ◌<◌, zero, suc, List, [], ◌∷◌, All, length, map, take, slice_index_or, slice_set}
use Rattle.momenta.specs.declared.state.BodyState.{BodyState}
use Rattle.colour_solver.specs.States.{nobody}
use Rattle.part_runs.specs.Hidden.{hidden, part_at}
use Rattle.part_runs.specs.Walks.{Walk, slots_between}

-- the bodies in some slots
abbrev pub bodies_at : List BodyState → List ℕ → List BodyState
bodies_at states slots = map (λ (slot : ℕ). slice_index_or states slot nobody) slots

-- what the part u sends to the part v before a stage
abbrev pub letter : ℕ → ℕ → Walk → List BodyState → List BodyState
letter u v w states = bodies_at states (slots_between u v w)

-- it lets the bodies of some slots go
abbrev pub left_by : List ℕ → List BodyState → List BodyState
left_by [] states = states
left_by (slot ∷ slots) states = left_by slots (slice_set states slot nobody)

-- these bodies, one after another
abbrev pub let_go : List ℕ → List BodyState → List BodyState
let_go [] states = []
let_go (slot ∷ slots) states = slice_index_or states slot nobody ∷ let_go slots (slice_set states slot nobody)

-- and of those that go to each of the parts below n
abbrev pub left_for : ℕ → ℕ → Walk → List BodyState → List BodyState
left_for zero k w states = states
left_for (suc v) k w states = left_by (slots_between k v w) (left_for v k w states)

-- it takes bodies in
abbrev pub taken_in : List ℕ → List BodyState → List BodyState → List BodyState
taken_in [] all states = states
taken_in (slot ∷ slots) all states = taken_in slots all (slice_set states slot (slice_index_or all slot nobody))

-- bodies of a letter put into their slots
abbrev pub put_in : List ℕ → List BodyState → List BodyState → List BodyState
put_in [] bodies states = states
put_in (slot ∷ slots) [] states = states
put_in (slot ∷ slots) (body ∷ bodies) states = put_in slots bodies (slice_set states slot body)

-- and those that come from each of the parts below n
abbrev pub taken_from : ℕ → ℕ → Walk → List BodyState → List BodyState → List BodyState
taken_from zero k w all states = states
taken_from (suc u) k w all states = taken_in (slots_between u k w) all (taken_from u k w all states)

-- ---- what holds of a walk from `before`, all bodies being `all`

-- the part u lets each body go that it sends to the part v, having sent those before
pub record IsSent (before : List ℕ) (w : Walk) (all : List BodyState) (u v : ℕ) : Type 0 where
  pub within : All (λ slot. slot < length all) (slots_between u v w)
  pub own : (i : ℕ) → i < length (slots_between u v w) →
      slice_index_or (left_by (take i (slots_between u v w)) (left_for v u w (hidden (part_at before) u all))) (slice_index_or (slots_between u v w) i 0) nobody
      ≡ slice_index_or all (slice_index_or (slots_between u v w) i 0) nobody
  pub letter_is : let_go (slots_between u v w) (left_for v u w (hidden (part_at before) u all)) ≡ letter u v w all
  pub put : (states : List BodyState) → put_in (slots_between u v w) (letter u v w all) states ≡ taken_in (slots_between u v w) all states

-- each part has the bodies that are with it after the walk
pub record IsHandedOn (n : ℕ) (before : List ℕ) (w : Walk) (all : List BodyState) : Type 0 where
  pub sent : (u v : ℕ) → IsSent before w all u v
  pub bodies : (k : ℕ) → taken_from n k w all (left_for n k w (hidden (part_at before) k all)) ≡ hidden (part_at w.at) k all
