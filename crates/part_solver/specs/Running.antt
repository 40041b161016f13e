-- The run of a part, pass by pass and stage by stage: what its lists have in them, and what has gone through its rings.
use Rattle.std.specs.Prelude.{◌≡◌, ◌<◌, ℕ, List, [], ◌++◌, drop, length, map, take}
use Rattle.momenta.specs.declared.state.BodyState.{BodyState}
use Rattle.momenta.specs.declared.state.Ends.{Ends}
use Rattle.colour_solver_base.specs.RowsAfter.{RowAfter}
use Rattle.colour_solver.specs.declared.constraint_row.ConstraintRow.{ConstraintRow}
use Rattle.colour_solver.specs.ColourRows.{AreEnds, all_rows, cut}
use Rattle.colour_solver.specs.ConstraintVisits.{AreRowsBelow, constraint_bounced, constraint_solved, constraint_warmed}
use Rattle.colour_solver.specs.declared.phase.Phase.{Phase}
use Rattle.colour_solver.specs.declared.phase.Phase.TheVariants.{Bounce, Solve, Warm}
use Rattle.colour_solver.specs.States.{AreAllStates, as_vector, carried_of, movers_of}
use Rattle.colour_solver.specs.declared.ticks.StepSums.{StepSums}
use Rattle.part_runs.specs.Laws.{AreFirst}
use Rattle.part_runs.specs.Runs.{PartSums, Stand, Step, at_home, begun, mail, own_stages, pass_mail, stage_rows, stand_of, ticks_mail, ticks_stand, visited, walks_of, warm_stand}
use Rattle.part_runs.specs.Stages.{IsPassOf, bodies_before, bodies_in, sent_in}
use Rattle.part_runs.specs.Walks.{Walk}
use Rattle.part_solver.specs.declared.seat.Lists.{Lists}
use Rattle.part_solver.specs.Walking.{kept}

-- ---- the passes of a run

-- the visits of a pass
abbrev pub visits : Phase → ConstraintRow → Ends → RowAfter ConstraintRow
visits Warm = constraint_warmed
visits Solve = constraint_solved
visits Bounce = constraint_bounced

-- the bodies and rows before a pass of the tick with this number; the restitution follows the last tick
abbrev pub stand_at : Step → ℕ → Phase → Stand
stand_at t tick Warm = begun t.gravity (ticks_stand tick t.gravity (stand_of t))
stand_at t tick Solve = warm_stand t.gravity (ticks_stand tick t.gravity (stand_of t))
stand_at t tick Bounce = ticks_stand tick t.gravity (stand_of t)

-- what has gone from the part u to the part v before it
abbrev pub mail_before : Step → ℕ → Phase → ℕ → ℕ → List BodyState
mail_before t tick Warm u v = ticks_mail u v (walks_of t) tick t.gravity (stand_of t)
mail_before t tick Solve u v = ticks_mail u v (walks_of t) tick t.gravity (stand_of t) ++ pass_mail u v (walks_of t) constraint_warmed (begun t.gravity (ticks_stand tick t.gravity (stand_of t)))
mail_before t tick Bounce u v = ticks_mail u v (walks_of t) tick t.gravity (stand_of t)

-- and after it
abbrev pub mail_after : Step → ℕ → Phase → ℕ → ℕ → List BodyState
mail_after t tick phase u v = mail_before t tick phase u v ++ pass_mail u v (walks_of t) (visits phase) (stand_at t tick phase)

-- and before its stage i
abbrev pub mail_at : Step → ℕ → Phase → ℕ → ℕ → ℕ → List BodyState
mail_at t tick phase i u v = mail_before t tick phase u v ++ sent_in u v t (visits phase) (stand_at t tick phase) i

-- the step has such a pass
abbrev pub IsDue : Step → ℕ → Phase → Type 0
IsDue t tick Warm = tick < t.count
IsDue t tick Solve = tick < t.count
IsDue t tick Bounce = tick ≡ t.count

-- what is known of it
pub record IsKnownPass (n : ℕ) (t : Step) (tick : ℕ) (phase : Phase) : Type 0 where
  pub pass : IsPassOf n t (visits phase) (stand_at t tick phase)
  pub first : (u v i : ℕ) → AreFirst (mail_at t tick phase i u v) (mail t u v)

-- ---- the lists of the part k

-- what stays as it is in a run: the slots of its movers at home and of what is carried along, and its moves, stage
-- after stage
pub record HasWalked (t : Step) (k : ℕ) (l : Lists) : Type 0 where
  pub awake : l.awake.items ≡ movers_of (at_home t k t.states)
  pub carried : l.carried.items ≡ carried_of (at_home t k t.states)
  pub moves : cut 0 l.ends.items l.moves.items ≡ map (λ (w : Walk). kept k w.moves) (walks_of t)
  pub ends : AreEnds 0 l.ends.items (length l.moves.items)

-- before its run
pub record IsWalked (t : Step) (k : ℕ) (l : Lists) : Type 0 where
  pub walk : HasWalked t k l
  pub states : l.states.items ≡ at_home t k t.states
  pub colours : l.rows.colours ≡ own_stages t.home k t.states (stage_rows t.rows)
  pub left : l.rows.left ≡ []
  pub rows : AreRowsBelow (length t.states) (all_rows l.rows)

-- what holds of its bodies and rows at all times
pub record IsSound (t : Step) (k : ℕ) (l : Lists) : Type 0 where
  pub walk : HasWalked t k l
  pub long : length l.states.items ≡ length t.states
  pub states : AreAllStates l.states.items
  pub rows : AreRowsBelow (length l.states.items) (all_rows l.rows)
  pub left : l.rows.left ≡ []

-- between two passes: all bodies are at home
pub record IsStanding (t : Step) (k : ℕ) (s : Stand) (l : Lists) : Type 0 where
  pub sound : IsSound t k l
  pub states : l.states.items ≡ at_home t k s.states
  pub colours : l.rows.colours ≡ own_stages t.home k t.states s.rows

-- the rows of the part k before the stage i of a pass with the visits f from the stand s on
abbrev pub rows_before : Step → ℕ → (ConstraintRow → Ends → RowAfter ConstraintRow) → Stand → ℕ → List (List ConstraintRow)
rows_before t k f s i = take i (own_stages t.home k t.states (visited f s).rows) ++ drop i (own_stages t.home k t.states s.rows)

-- before that stage
pub record IsBefore (t : Step) (k : ℕ) (f : ConstraintRow → Ends → RowAfter ConstraintRow) (s : Stand) (i : ℕ) (l : Lists) : Type 0 where
  pub sound : IsSound t k l
  pub states : l.states.items ≡ bodies_before t k f s i
  pub colours : l.rows.colours ≡ rows_before t k f s i

-- in it: bodies have been handed on
pub record IsHanded (t : Step) (k : ℕ) (f : ConstraintRow → Ends → RowAfter ConstraintRow) (s : Stand) (i : ℕ) (l : Lists) : Type 0 where
  pub sound : IsSound t k l
  pub states : l.states.items ≡ bodies_in t k f s i
  pub colours : l.rows.colours ≡ rows_before t k f s i

-- ---- sums

-- the sums that the code keeps
abbrev pub sums_of : StepSums → PartSums
sums_of s = record { gravity = as_vector s.gravity; immovable = as_vector s.immovable; clamp = as_vector s.clamp }
