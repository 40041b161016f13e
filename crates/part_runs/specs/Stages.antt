-- The stages of a pass by their numbers: those of the colours, that of the rows that have none, and the way home.
use Rattle.std.specs.Prelude.{◌≡◌, ◌<◌, ◌+◌, ℕ, zero, suc, cond, nat_lt, List, [], ◌∷◌, ◌++◌, length, take, drop, slice_index_or}
use Rattle.fixed_geom.specs.Vectors.{plus, zero_vector}
use Rattle.fixed_geom.specs.declared.vectors.Vec2.{Vec2}
use Rattle.momenta.specs.declared.state.BodyState.{BodyState}
use Rattle.momenta.specs.declared.state.Ends.{Ends}
use Rattle.colour_solver_base.specs.RowsAfter.{RowAfter}
use Rattle.colour_solver.specs.declared.constraint_row.ConstraintRow.{ConstraintRow}
use Rattle.colour_solver.specs.ConstraintVisits.{constraint_slots}
use Rattle.colour_solver.specs.RowVisits.{passed, rows_passed, share}
use Rattle.part_runs.specs.Hidden.{hidden, owned, part_at}
use Rattle.part_runs.specs.Walks.{IsWalk, Walk, first_part, home_of, setting_out}
use Rattle.part_runs.specs.Handing.{IsHandedOn, letter}
use Rattle.part_runs.specs.Passes.{AreVisited, given_to, letters, states_after}
use Rattle.part_runs.specs.Runs.{Stand, Step, at_home, own_stages, pass_mail, visited, walks_of}

-- who has each body before the stage i, all being at home at first
abbrev pub stood : List ℕ → List Walk → ℕ → List ℕ
stood home walks zero = home
stood home [] (suc i) = home
stood home (w ∷ walks) (suc i) = stood w.at walks i

-- its walk
abbrev pub walk_at : List Walk → ℕ → Walk
walk_at walks i = slice_index_or walks i (setting_out [])

-- its rows
abbrev pub rows_at : List (List ConstraintRow) → ℕ → List ConstraintRow
rows_at rows i = slice_index_or rows i []

-- the part of each of them
abbrev pub owner_at : Step → ℕ → ConstraintRow → ℕ
owner_at t i r = cond (nat_lt i (length t.rows.colours)) (home_of t.home t.states r) (first_part r)

-- the bodies before the stage i of a pass with the visits f
abbrev pub states_at : (ConstraintRow → Ends → RowAfter ConstraintRow) → Stand → ℕ → List BodyState
states_at f s i = states_after f s.states (take i s.rows)

-- what the part u has sent to the part v before it
abbrev pub sent_in : ℕ → ℕ → Step → (ConstraintRow → Ends → RowAfter ConstraintRow) → Stand → ℕ → List BodyState
sent_in u v t f s i = letters u v f (take i (walks_of t)) s.states s.rows

-- the rows of the part k in it
abbrev pub own_at : Step → ℕ → Stand → ℕ → List ConstraintRow
own_at t k s i = rows_at (own_stages t.home k t.states s.rows) i

-- the bodies that the part k has before it
abbrev pub bodies_before : Step → ℕ → (ConstraintRow → Ends → RowAfter ConstraintRow) → Stand → ℕ → List BodyState
bodies_before t k f s i = hidden (part_at (stood t.home (walks_of t) i)) k (states_at f s i)

-- the bodies that the part k has during it
abbrev pub bodies_in : Step → ℕ → (ConstraintRow → Ends → RowAfter ConstraintRow) → Stand → ℕ → List BodyState
bodies_in t k f s i = hidden (part_at (walk_at (walks_of t) i).at) k (states_at f s i)

-- what immovable bodies give to the movers of the part k from it on
abbrev pub given_from : Step → ℕ → (ConstraintRow → Ends → RowAfter ConstraintRow) → Stand → ℕ → Vec2
given_from t k f s i = given_to f k (drop i (walks_of t)) (states_at f s i) (drop i s.rows) (drop i (own_stages t.home k t.states s.rows))

-- the stage i for the part k: its visits, from the bodies that it has during the stage, leave those with which it goes
-- on, and its rows
pub record IsOwnStage (t : Step) (k : ℕ) (f : ConstraintRow → Ends → RowAfter ConstraintRow) (s : Stand) (i : ℕ) : Type 0 where
  pub bodies : bodies_before t k f s (i + 1) ≡ passed constraint_slots f (bodies_in t k f s i) (own_at t k s i)
  pub rows : own_at t k (visited f s) i ≡ rows_passed constraint_slots f (bodies_in t k f s i) (own_at t k s i)
  pub given : given_from t k f s i ≡ plus (share constraint_slots f (bodies_in t k f s i) (own_at t k s i)) (given_from t k f s (i + 1))

-- the stage i of a pass: bodies are handed on, and the visits are those of the parts
pub record IsStage (n : ℕ) (t : Step) (f : ConstraintRow → Ends → RowAfter ConstraintRow) (s : Stand) (i : ℕ) : Type 0 where
  pub walk : IsWalk n t.states (stood t.home (walks_of t) i) (walk_at (walks_of t) i)
  pub handed : IsHandedOn n (stood t.home (walks_of t) i) (walk_at (walks_of t) i) (states_at f s i)
  pub visited_apart : AreVisited n f (part_at (walk_at (walks_of t) i).at) (owner_at t i) (states_at f s i) (rows_at s.rows i)
  pub own : (k : ℕ) → own_at t k s i ≡ owned (owner_at t i) k (rows_at s.rows i)
  pub next : states_at f s (i + 1) ≡ passed constraint_slots f (states_at f s i) (rows_at s.rows i)
  pub onward : stood t.home (walks_of t) (i + 1) ≡ (walk_at (walks_of t) i).at
  pub sent : (u v : ℕ) → sent_in u v t f s (i + 1) ≡ sent_in u v t f s i ++ letter u v (walk_at (walks_of t) i) (states_at f s i)
  pub each : (k : ℕ) → IsOwnStage t k f s i

-- the way home: each body is at home after it
pub record IsWayHome (n : ℕ) (t : Step) (f : ConstraintRow → Ends → RowAfter ConstraintRow) (s : Stand) (i : ℕ) : Type 0 where
  pub walk : IsWalk n t.states (stood t.home (walks_of t) i) (walk_at (walks_of t) i)
  pub handed : IsHandedOn n (stood t.home (walks_of t) i) (walk_at (walks_of t) i) (states_at f s i)
  pub home : (walk_at (walks_of t) i).at ≡ t.home
  pub states : states_at f s i ≡ (visited f s).states
  pub bodies : (k : ℕ) → bodies_in t k f s i ≡ at_home t k (visited f s).states
  pub given : (k : ℕ) → given_from t k f s i ≡ zero_vector
  pub sent : (u v : ℕ) → pass_mail u v (walks_of t) f s ≡ sent_in u v t f s i ++ letter u v (walk_at (walks_of t) i) (states_at f s i)

-- a pass of a run
pub record IsPassOf (n : ℕ) (t : Step) (f : ConstraintRow → Ends → RowAfter ConstraintRow) (s : Stand) : Type 0 where
  pub rows : length s.rows ≡ length t.rows.colours + 1
  pub walks : length (walks_of t) ≡ length s.rows + 1
  pub each : (i : ℕ) → i < length s.rows → IsStage n t f s i
  pub home : IsWayHome n t f s (length s.rows)
