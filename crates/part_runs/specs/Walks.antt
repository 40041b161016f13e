-- Trusted: Who has a body while a colour is solved. Each mover has a home, its part. A row is of the part where its
-- first mover is at home; what has no colour is of the part 0. A body that a row needs from elsewhere moves there
-- before the colour, and goes home after the last. All parts make this walk alike.
use Rattle.std.specs.Prelude.{◌≡◌, ◌≢◌, ◌<◌, ℕ, Bool, true, ◌&&◌, ◌||◌, cond, nat_eq, List, [], ◌∷◌, ◌++◌, All, AllPairs, filter, length, map, slice_set}
use Rattle.momenta.specs.declared.state.BodyState.{BodyState}
use Rattle.colour_solver.specs.declared.constraint_row.ConstraintRow.{ConstraintRow}
use Rattle.colour_solver.specs.Colour.{is_mover}
use Rattle.colour_solver.specs.ColourRows.{ColourRows}
use Rattle.colour_solver.specs.ConstraintVisits.{constraint_slots}
use Rattle.part_runs.specs.Hidden.{ArePartsBelow, part_at, part_of}

-- a body moves from one part to another
pub record Move : Type 0 where
  pub slot : ℕ
  pub from : ℕ
  pub to : ℕ

-- who has each body, and the moves that have led there
pub record Walk : Type 0 where
  pub at : List ℕ
  pub moves : List Move

-- a body is wanted in the part `to`: it moves there, if it is elsewhere
abbrev pub fetched : ℕ → ℕ → Walk → Walk
fetched to slot w = cond (nat_eq (part_at w.at slot) to) w (record { at = slice_set w.at slot to; moves = w.moves ++ record { slot = slot; from = part_at w.at slot; to = to } ∷ [] })

-- the same of a mover; what no impulse moves is everywhere
abbrev pub fetched_mover : List BodyState → ℕ → ℕ → Walk → Walk
fetched_mover states to slot w = cond (is_mover states slot) (fetched to slot w) w

-- a row's two bodies are wanted in the part `to`
abbrev pub row_fetched : List BodyState → ℕ → ConstraintRow → Walk → Walk
row_fetched states to r w = fetched_mover states to (constraint_slots r).b (fetched_mover states to (constraint_slots r).a w)

-- the walk over the rows of a colour, each of which is of the part `to`
abbrev pub walk_rows : List BodyState → (ConstraintRow → ℕ) → List ConstraintRow → Walk → Walk
walk_rows states to [] w = w
walk_rows states to (r ∷ rows) w = walk_rows states to rows (row_fetched states (to r) r w)

-- the walk home, over the slots of the awake movers
abbrev pub walk_home : List ℕ → List ℕ → Walk → Walk
walk_home home [] w = w
walk_home home (slot ∷ slots) w = walk_home home slots (fetched (part_at home slot) slot w)

-- before a stage: the bodies are where the stage before has left them, and nothing has moved yet
abbrev pub setting_out : List ℕ → Walk
setting_out at = record { at = at; moves = [] }

-- the part of a row that has a colour: where its first mover is at home
abbrev pub home_of : List ℕ → List BodyState → ConstraintRow → ℕ
home_of home states r = part_of constraint_slots (part_at home) states r

-- that of a row that has none
abbrev pub first_part : ConstraintRow → ℕ
first_part r = 0

-- the stages of a pass, each with its walk: the colours one after another, the rows that have none, and the way home
abbrev pub last_stages : List ℕ → List ℕ → List BodyState → List ConstraintRow → List ℕ → List Walk
last_stages home awake states left at = walk_rows states first_part left (setting_out at) ∷ walk_home home awake (setting_out (walk_rows states first_part left (setting_out at)).at) ∷ []

abbrev pub stages_from : List ℕ → List ℕ → List BodyState → List (List ConstraintRow) → List ConstraintRow → List ℕ → List Walk
stages_from home awake states [] left at = last_stages home awake states left at
stages_from home awake states (rows ∷ colours) left at =
    walk_rows states (home_of home states) rows (setting_out at) ∷ stages_from home awake states colours left (walk_rows states (home_of home states) rows (setting_out at)).at

-- all bodies being at home at first
abbrev pub stages : List ℕ → List ℕ → List BodyState → ColourRows ConstraintRow → List Walk
stages home awake states rows = stages_from home awake states rows.colours rows.left home

-- ---- what a part has of them

-- the slots of the bodies that move from the part u to the part v, in the order of the walk
abbrev pub goes : ℕ → ℕ → Move → Bool
goes u v m = nat_eq m.from u && nat_eq m.to v

abbrev pub slots_between : ℕ → ℕ → Walk → List ℕ
slots_between u v w = map (λ (m : Move). m.slot) (filter (goes u v) w.moves)

-- the moves from the part k and to it
abbrev pub touches : ℕ → Move → Bool
touches k m = nat_eq m.from k || nat_eq m.to k

abbrev pub own_moves : ℕ → List Move → List Move
own_moves k moves = filter (touches k) moves

-- the rows that have no colour are of the part 0
abbrev pub own_left : ℕ → List ConstraintRow → List ConstraintRow
own_left k left = cond (nat_eq 0 k) left []

-- ---- what a walk does

-- a move of a mover, from where it was to where it is after the walk
pub record IsMoved (states : List BodyState) (before after : List ℕ) (m : Move) : Type 0 where
  pub within : m.slot < length states
  pub mover : is_mover states m.slot ≡ true
  pub from : m.from ≡ part_at before m.slot
  pub to : m.to ≡ part_at after m.slot
  pub other : m.from ≢ m.to

-- a walk of the bodies `states` among the parts below n, which were as `before` says
pub record IsWalk (n : ℕ) (states : List BodyState) (before : List ℕ) (w : Walk) : Type 0 where
  pub long : length w.at ≡ length before
  pub below : ArePartsBelow (part_at w.at) n
  pub moved : All (IsMoved states before w.at) w.moves
  pub once : AllPairs (λ (m o : Move). m.slot ≢ o.slot) w.moves
  pub still : (slot : ℕ) → All (λ (m : Move). m.slot ≢ slot) w.moves → part_at w.at slot ≡ part_at before slot
