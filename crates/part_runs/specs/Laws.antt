-- Trusted: The laws of runs by parts: what a part may be given, that bodies are handed on rightly, that a stage's
-- visits are those of the parts, that all parts together make the whole run, and that the whole is read back from them.
use Rattle.std.specs.Prelude.{◌≡◌, ℕ, ◌+◌, ◌<◌, nat_eq, List, [], ◌∷◌, ◌++◌, drop, filter, length, map, All, slice_get}
use Rattle.std.specs.List.{flat_map}
use Rattle.momenta.specs.Motions.{advanced, pulled, speed_clamped}
use Rattle.momenta.specs.declared.mass.MassData.{MassData}
use Rattle.momenta.specs.declared.motion.Motion.{Motion}
use Rattle.momenta.specs.declared.state.BodyState.{BodyState}
use Rattle.momenta.specs.declared.state.Ends.{Ends}
use Rattle.colour_solver_base.specs.RowsAfter.{RowAfter}
use Rattle.colour_solver.specs.declared.constraint_row.ConstraintRow.{ConstraintRow}
use Rattle.colour_solver.specs.Colour.{AreColours}
use Rattle.colour_solver.specs.ColourRows.{ColourRows, all_rows}
use Rattle.colour_solver.specs.ConstraintVisits.{constraint_bounced, constraint_slots, constraint_solved, constraint_warmed, row_name}
use Rattle.colour_solver.specs.Passes.{carry, pass}
use Rattle.colour_solver.specs.Phases.{constraint_visit}
use Rattle.colour_solver.specs.declared.phase.Phase.TheVariants.{Bounce, Solve, Warm}
use Rattle.colour_solver.specs.States.{AreAllStates, HaveCourses, carried_of, movers_of}
use Rattle.colour_solver.specs.Ticks.{Run, ran, start}
use Rattle.part_runs.specs.Hidden.{ArePartsBelow, ArePlaced, hidden, part_at, rows_of}
use Rattle.part_runs.specs.Walks.{Move, Walk, first_part, goes, home_of, own_left, own_moves, row_fetched, setting_out, walk_home, walk_rows}
use Rattle.part_runs.specs.Passes.{IsFairVisit}
use Rattle.part_runs.specs.Runs.{IsInRange, IsParted, IsReached, IsStepped, Stand, Step, at_home, begun, ended, mail, own_stages, part_ran, pass_mail, stage_rows, stand_of, ticks_mail, ticks_stand, visited, walks_of, warm_stand}
use Rattle.part_runs.specs.Stages.{IsPassOf, rows_at, sent_in, stood, walk_at}
use Rattle.part_runs.specs.ReadBack.{AreBodiesBack, owners_of, picked}

-- ---- what a part is given

-- the bodies and rows of a step; that the rows are within their limits each part knows of its own
pub record CanRun (bodies : List BodyState) (parts : ColourRows ConstraintRow) : Type 0 where
  pub states : AreAllStates bodies
  pub courses : HaveCourses bodies
  pub rows : ArePlaced (length bodies) (all_rows parts)
  pub apart : AreColours bodies parts

-- its homes: each slot has one, in one of the parts below n
pub record AreHomes (n : ℕ) (t : Step) : Type 0 where
  pub long : length t.home ≡ length t.states
  pub below : ArePartsBelow (part_at t.home) n

-- which they have if each is below n
abbrev pub HomesAreBelow : Type 0
HomesAreBelow = (n : ℕ) (home : List ℕ) → 0 < n → All (λ part. part < n) home → ArePartsBelow (part_at home) n

-- the bodies of the part k
pub record AreHidden (g : ℕ → ℕ) (k : ℕ) (bodies : List BodyState) : Type 0 where
  pub long : length (hidden g k bodies) ≡ length bodies
  pub movers : movers_of (hidden g k bodies) ≡ filter (λ slot. nat_eq (g slot) k) (movers_of bodies)
  pub carried : carried_of (hidden g k bodies) ≡ carried_of bodies
  pub states : AreAllStates bodies → AreAllStates (hidden g k bodies)
  pub courses : HaveCourses bodies → HaveCourses (hidden g k bodies)
  pub changed : (f : MassData → Motion → Motion) → hidden g k (pass f bodies) ≡ pass f (hidden g k bodies)
  pub carried_on : hidden g k (carry bodies) ≡ carry (hidden g k bodies)

abbrev pub BodiesAreHidden : Type 0
BodiesAreHidden = (g : ℕ → ℕ) (k : ℕ) (states : List BodyState) → AreHidden g k states

-- the part k's bodies are within their limits
pub record IsPart (t : Step) (k : ℕ) : Type 0 where
  pub states : AreAllStates (at_home t k t.states)
  pub courses : HaveCourses (at_home t k t.states)

abbrev pub PartsCanRun : Type 0
PartsCanRun = (t : Step) (k : ℕ) → CanRun t.states t.rows → IsPart t k

-- what the part k has of the bodies at home, at any time of a run
pub record IsPartAt (t : Step) (k : ℕ) (s : Stand) : Type 0 where
  pub movers : movers_of (at_home t k s.states) ≡ movers_of (at_home t k t.states)
  pub carried : carried_of (at_home t k s.states) ≡ carried_of (at_home t k t.states)
  pub courses : HaveCourses t.states → HaveCourses (at_home t k s.states)
  pub begun_is : at_home t k (begun t.gravity s).states ≡ pass speed_clamped (pass (pulled t.gravity) (at_home t k s.states))
  pub ended_is : at_home t k (ended s).states ≡ carry (pass advanced (pass speed_clamped (at_home t k s.states)))
  pub carried_last : carried_of (pass advanced (pass speed_clamped (at_home t k s.states))) ≡ carried_of (at_home t k t.states)
  pub courses_last : HaveCourses t.states → HaveCourses (pass advanced (pass speed_clamped (at_home t k s.states)))

abbrev pub PartsAtHome : Type 0
PartsAtHome = (t : Step) (k : ℕ) (s : Stand) → IsReached t s → IsPartAt t k s

-- ---- a walk

-- the moves from a part and to it tell what it sends and what it is sent
pub record AreOwnMoves (k : ℕ) (moves : List Move) : Type 0 where
  pub sent : (v : ℕ) → filter (goes k v) (own_moves k moves) ≡ filter (goes k v) moves
  pub received : (u : ℕ) → filter (goes u k) (own_moves k moves) ≡ filter (goes u k) moves

abbrev pub OwnMovesTell : Type 0
OwnMovesTell = (k : ℕ) (moves : List Move) → AreOwnMoves k moves

-- the walks of a pass by their numbers
pub record AreWalksMade (t : Step) : Type 0 where
  pub count : length (walks_of t) ≡ length t.rows.colours + 2
  pub coloured : (i : ℕ) → i < length t.rows.colours → walk_at (walks_of t) i ≡ walk_rows t.states (home_of t.home t.states) (rows_at t.rows.colours i) (setting_out (stood t.home (walks_of t) i))
  pub left : walk_at (walks_of t) (length t.rows.colours) ≡ walk_rows t.states first_part t.rows.left (setting_out (stood t.home (walks_of t) (length t.rows.colours)))
  pub home : walk_at (walks_of t) (length t.rows.colours + 1) ≡ walk_home t.home (movers_of t.states) (setting_out (stood t.home (walks_of t) (length t.rows.colours + 1)))
  pub onward : (i : ℕ) → i < length (walks_of t) → stood t.home (walks_of t) (i + 1) ≡ (walk_at (walks_of t) i).at
  pub own : (k : ℕ) → own_stages t.home k t.states (stage_rows t.rows) ≡ map (rows_of constraint_slots (part_at t.home) k t.states) t.rows.colours ++ own_left k t.rows.left ∷ []

abbrev pub WalksAreMade : Type 0
WalksAreMade = (t : Step) → AreWalksMade t

-- a row is of this part, and its bodies needn't move
pub record IsThere (states : List BodyState) (home : List ℕ) (part : ℕ) (r : ConstraintRow) (w : Walk) : Type 0 where
  pub part_is : home_of home states r ≡ part
  pub walk_is : row_fetched states part r w ≡ w

abbrev pub RowsStay : Type 0
RowsStay = (states : List BodyState) (home : List ℕ) (part : ℕ) (r : ConstraintRow) (w : Walk) → part_at home (constraint_slots r).a ≡ part → part_at home (constraint_slots r).b ≡ part
    → part_at w.at (constraint_slots r).a ≡ part → part_at w.at (constraint_slots r).b ≡ part → IsThere states home part r w

-- ---- a pass

-- the visits of each pass are fair
pub record VisitsAreFair : Type 0 where
  pub warm : IsFairVisit constraint_warmed
  pub solve : IsFairVisit constraint_solved
  pub bounce : IsFairVisit constraint_bounced
  pub warm_is : constraint_visit Warm ≡ constraint_warmed
  pub solve_is : constraint_visit Solve ≡ constraint_solved
  pub bounce_is : constraint_visit Bounce ≡ constraint_bounced

-- what a step has reached after each of its passes and body stages
pub record AreReached (t : Step) (s : Stand) : Type 0 where
  pub begun : IsReached t (begun t.gravity s)
  pub visited : (f : ConstraintRow → Ends → RowAfter ConstraintRow) → IsFairVisit f → IsReached t (visited f s)
  pub ended : IsReached t (ended s)

abbrev pub StandsAreReached : Type 0
StandsAreReached = (t : Step) (s : Stand) → IsReached t s → AreReached t s

abbrev pub TicksAreReached : Type 0
TicksAreReached = (t : Step) (count : ℕ) → IsReached t (ticks_stand count t.gravity (stand_of t))

-- bodies are handed on before each stage of a pass, whose visits are those of the parts, and then they go home
abbrev pub PassesByParts : Type 0
PassesByParts = (t : Step) (n : ℕ) → 0 < n → CanRun t.states t.rows → AreHomes n t → (f : ConstraintRow → Ends → RowAfter ConstraintRow) → IsFairVisit f → (s : Stand) → IsReached t s → IsPassOf n t f s

-- ---- all parts together

abbrev pub PartsAreRuns : Type 0
PartsAreRuns = (t : Step) (n : ℕ) → 0 < n → CanRun t.states t.rows → AreHomes n t → IsParted t n (ran t.count t.gravity (start t.states (all_rows t.rows))) (part_ran t)

abbrev pub PartsStepAll : Type 0
PartsStepAll = (t : Step) (n : ℕ) → 0 < n → CanRun t.states t.rows → AreHomes n t → ((k : ℕ) → k < n → IsInRange (part_ran t k)) → IsStepped t.states (ran t.count t.gravity (start t.states (all_rows t.rows)))

-- ---- mail

-- these bodies are sent first
abbrev pub AreFirst : List BodyState → List BodyState → Type 0
AreFirst sent whole = whole ≡ sent ++ drop (length sent) whole

-- what the part u has sent to the part v in each pass of the tick with the number `tick`
pub record IsTickSent (t : Step) (u v tick : ℕ) : Type 0 where
  pub warm : (i : ℕ) → AreFirst (ticks_mail u v (walks_of t) tick t.gravity (stand_of t) ++ sent_in u v t constraint_warmed (begun t.gravity (ticks_stand tick t.gravity (stand_of t))) i) (mail t u v)
  pub solve : (i : ℕ) → AreFirst (ticks_mail u v (walks_of t) tick t.gravity (stand_of t) ++ pass_mail u v (walks_of t) constraint_warmed (begun t.gravity (ticks_stand tick t.gravity (stand_of t)))
      ++ sent_in u v t constraint_solved (warm_stand t.gravity (ticks_stand tick t.gravity (stand_of t))) i) (mail t u v)

pub record IsMail (t : Step) (u v : ℕ) : Type 0 where
  pub ticks : (tick : ℕ) → tick < t.count → IsTickSent t u v tick
  pub bounce : (i : ℕ) → AreFirst (ticks_mail u v (walks_of t) t.count t.gravity (stand_of t) ++ sent_in u v t constraint_bounced (ticks_stand t.count t.gravity (stand_of t)) i) (mail t u v)

abbrev pub MailIsSent : Type 0
MailIsSent = (t : Step) (u v : ℕ) → IsMail t u v

-- the next letter follows place by place
abbrev pub LettersFollow : Type 0
LettersFollow = (sent next whole : List BodyState) → AreFirst (sent ++ next) whole → (i : ℕ) → i < length next → slice_get whole (length sent + i) ≡ slice_get next i

-- ---- reading back

-- the bodies after the run r are read back from the runs of the parts below n, and each of these has its rows
pub record IsReadBack (n : ℕ) (t : Step) (r : Run) (part : ℕ → Run) : Type 0 where
  pub states : AreBodiesBack (part_at t.home) t.states (λ k. (part k).states) r.states
  pub long : length r.states ≡ length t.states
  pub names : map row_name r.rows ≡ map row_name (all_rows t.rows)
  pub count : length (owners_of constraint_slots t.home t.states (flat_map (λ rs. rs) t.rows.colours) t.rows.left) ≡ length r.rows
  pub below : All (λ owner. owner < n) (owners_of constraint_slots t.home t.states (flat_map (λ rs. rs) t.rows.colours) t.rows.left)
  pub rows : (k : ℕ) → (part k).rows ≡ picked k (owners_of constraint_slots t.home t.states (flat_map (λ rs. rs) t.rows.colours) t.rows.left) r.rows

abbrev pub RunsAreReadBack : Type 0
RunsAreReadBack = (t : Step) (n : ℕ) → 0 < n → CanRun t.states t.rows → AreHomes n t → IsReadBack n t (ran t.count t.gravity (start t.states (all_rows t.rows))) (part_ran t)
