-- Trusted: A step's ticks and its restitution by stages, and of it the run of a part: its bodies at home, its rows, and
-- what was added to its movers' momentum.
use Rattle.std.specs.Prelude.{◌≡◌, ℕ, zero, suc, List, [], ◌∷◌, ◌++◌, length, map, slice_index_or}
use Rattle.std.specs.List.{flat_map}
use Rattle.fixed_geom.specs.Vectors.{plus, zero_vector}
use Rattle.fixed_geom.specs.declared.vectors.Vec2.{Vec2}
use Rattle.momenta.specs.Motions.{advanced, pulled, speed_clamped}
use Rattle.momenta.specs.declared.state.BodyState.{BodyState}
use Rattle.momenta.specs.declared.state.Ends.{Ends}
use Rattle.colour_solver_base.specs.RowsAfter.{RowAfter}
use Rattle.colour_solver.specs.declared.constraint_row.ConstraintRow.{ConstraintRow}
use Rattle.colour_solver.specs.ColourRows.{ColourRows}
use Rattle.colour_solver.specs.ConstraintVisits.{AreRowsBelow, constraint_bounced, constraint_slots, constraint_solved, constraint_warmed, row_name}
use Rattle.colour_solver.specs.Passes.{carry, gain, pass}
use Rattle.colour_solver.specs.States.{AreAllStates, AreSameBeside, HaveCourses, movers_of, nobody, total}
use Rattle.colour_solver.specs.Ticks.{Run}
use Rattle.part_runs.specs.Hidden.{SameMovers, hidden, part_at, rows_of, sum_below}
use Rattle.part_runs.specs.Walks.{Walk, own_left, stages}
use Rattle.part_runs.specs.Passes.{given_to, letters, rows_after, states_after}

-- what all parts of a step read: its bodies and rows, the home of each slot, gravity, and for how many ticks
pub record Step : Type 0 where
  pub states : List BodyState
  pub rows : ColourRows ConstraintRow
  pub home : List ℕ
  pub gravity : Vec2
  pub count : ℕ

-- the stages of each of its passes: who has which body when
abbrev pub walks_of : Step → List Walk
walks_of t = stages t.home (movers_of t.states) t.states t.rows

-- ---- the run of all bodies, its rows by stages

pub record Stand : Type 0 where
  pub states : List BodyState
  pub rows : List (List ConstraintRow)

-- the rows that have colours, and then those that have none
abbrev pub stage_rows : ColourRows ConstraintRow → List (List ConstraintRow)
stage_rows r = r.colours ++ r.left ∷ []

abbrev pub stand_of : Step → Stand
stand_of t = record { states = t.states; rows = stage_rows t.rows }

-- gravity and the speed limit
abbrev pub begun : Vec2 → Stand → Stand
begun g s = record s { states = pass speed_clamped (pass (pulled g) s.states) }

-- a pass over the constraints
abbrev pub visited : (ConstraintRow → Ends → RowAfter ConstraintRow) → Stand → Stand
visited f s = record { states = states_after f s.states s.rows; rows = rows_after f s.states s.rows }

-- the speed limit, the move, and what is carried along
abbrev pub ended : Stand → Stand
ended s = record s { states = carry (pass advanced (pass speed_clamped s.states)) }

abbrev pub warm_stand : Vec2 → Stand → Stand
warm_stand g s = visited constraint_warmed (begun g s)

abbrev pub solved_stand : Vec2 → Stand → Stand
solved_stand g s = visited constraint_solved (warm_stand g s)

abbrev pub tick_stand : Vec2 → Stand → Stand
tick_stand g s = ended (solved_stand g s)

abbrev pub ticks_stand : ℕ → Vec2 → Stand → Stand
ticks_stand zero g s = s
ticks_stand (suc n) g s = tick_stand g (ticks_stand n g s)

abbrev pub ran_stand : ℕ → Vec2 → Stand → Stand
ran_stand n g s = visited constraint_bounced (ticks_stand n g s)

-- the bodies and rows that a run of the step has at some time: the same movers, masses and courses, the rows where they
-- were, each of its constraint
pub record IsReached (t : Step) (s : Stand) : Type 0 where
  pub movers : SameMovers t.states s.states
  pub long : length s.states ≡ length t.states
  pub mass : (slot : ℕ) → (slice_index_or s.states slot nobody).mass ≡ (slice_index_or t.states slot nobody).mass
  pub courses : HaveCourses t.states → HaveCourses s.states
  pub slots : map (map constraint_slots) s.rows ≡ map (map constraint_slots) (stage_rows t.rows)
  pub names : map (map row_name) s.rows ≡ map (map row_name) (stage_rows t.rows)

-- ---- what the part u sends to the part v

abbrev pub pass_mail : ℕ → ℕ → List Walk → (ConstraintRow → Ends → RowAfter ConstraintRow) → Stand → List BodyState
pass_mail u v walks f s = letters u v f walks s.states s.rows

abbrev pub tick_mail : ℕ → ℕ → List Walk → Vec2 → Stand → List BodyState
tick_mail u v walks g s = pass_mail u v walks constraint_warmed (begun g s) ++ pass_mail u v walks constraint_solved (warm_stand g s)

abbrev pub ticks_mail : ℕ → ℕ → List Walk → ℕ → Vec2 → Stand → List BodyState
ticks_mail u v walks zero g s = []
ticks_mail u v walks (suc n) g s = ticks_mail u v walks n g s ++ tick_mail u v walks g (ticks_stand n g s)

-- over the whole step
abbrev pub mail : Step → ℕ → ℕ → List BodyState
mail t u v = ticks_mail u v (walks_of t) t.count t.gravity (stand_of t) ++ pass_mail u v (walks_of t) constraint_bounced (ticks_stand t.count t.gravity (stand_of t))

-- ---- the run of a part

-- its rows by stages
abbrev pub own_stages : List ℕ → ℕ → List BodyState → List (List ConstraintRow) → List (List ConstraintRow)
own_stages home k first [] = []
own_stages home k first (left ∷ []) = own_left k left ∷ []
own_stages home k first (rows ∷ next ∷ more) = rows_of constraint_slots (part_at home) k first rows ∷ own_stages home k first (next ∷ more)

-- the part k has its rows of each stage as a colour of their own, and none without
pub record AreOwnRows (t : Step) (k : ℕ) (s : Stand) (part : ColourRows ConstraintRow) : Type 0 where
  pub colours : part.colours ≡ own_stages t.home k t.states s.rows
  pub left : part.left ≡ []

-- what was added to its movers' momentum
pub record PartSums : Type 0 where
  pub gravity : Vec2
  pub immovable : Vec2
  pub clamp : Vec2

abbrev pub pass_given : Step → ℕ → (ConstraintRow → Ends → RowAfter ConstraintRow) → Stand → Vec2
pass_given t k f s = given_to f k (walks_of t) s.states s.rows (own_stages t.home k t.states s.rows)

-- the bodies as the part k has them at home
abbrev pub at_home : Step → ℕ → List BodyState → List BodyState
at_home t k states = hidden (part_at t.home) k states

abbrev pub tick_sums : Step → ℕ → Stand → PartSums → PartSums
tick_sums t k s sums = record {
  gravity = plus sums.gravity (gain (pulled t.gravity) (at_home t k s.states));
  immovable = plus (plus sums.immovable (pass_given t k constraint_warmed (begun t.gravity s))) (pass_given t k constraint_solved (warm_stand t.gravity s));
  clamp = plus (plus (plus sums.clamp (gain speed_clamped (pass (pulled t.gravity) (at_home t k s.states)))) (gain speed_clamped (at_home t k (solved_stand t.gravity s).states)))
      (gain advanced (pass speed_clamped (at_home t k (solved_stand t.gravity s).states)));
}

abbrev pub no_sums : PartSums
no_sums = record { gravity = zero_vector; immovable = zero_vector; clamp = zero_vector }

abbrev pub ticks_sums : Step → ℕ → ℕ → PartSums
ticks_sums t k zero = no_sums
ticks_sums t k (suc n) = tick_sums t k (ticks_stand n t.gravity (stand_of t)) (ticks_sums t k n)

abbrev pub ran_sums : Step → ℕ → PartSums
ran_sums t k = record (ticks_sums t k t.count) { immovable = plus (ticks_sums t k t.count).immovable (pass_given t k constraint_bounced (ticks_stand t.count t.gravity (stand_of t))) }

-- the run of the part k
abbrev pub part_ran : Step → ℕ → Run
part_ran t k = record {
  states = at_home t k (ran_stand t.count t.gravity (stand_of t)).states;
  rows = flat_map (λ rs. rs) (own_stages t.home k t.states (ran_stand t.count t.gravity (stand_of t)).rows);
  gravity = (ran_sums t k).gravity;
  immovable = (ran_sums t k).immovable;
  clamp = (ran_sums t k).clamp;
}

-- ---- what a step's caller learns of bodies, rows and momentum

-- the run r of all bodies is made up of the runs of the parts below n
pub record IsParted (t : Step) (n : ℕ) (r : Run) (part : ℕ → Run) : Type 0 where
  pub states : (k : ℕ) → at_home t k r.states ≡ (part k).states
  pub gravity : r.gravity ≡ sum_below n (λ k. (part k).gravity)
  pub immovable : r.immovable ≡ sum_below n (λ k. (part k).immovable)
  pub clamp : r.clamp ≡ sum_below n (λ k. (part k).clamp)

-- all that was added to the movers' momentum
abbrev pub added_in : Run → Vec2
added_in r = plus r.gravity (plus r.immovable r.clamp)

-- its bodies and rows are within their limits
pub record IsInRange (r : Run) : Type 0 where
  pub states : AreAllStates r.states
  pub rows : AreRowsBelow (length r.states) r.rows
  pub courses : HaveCourses r.states

-- the run r began with these bodies
pub record IsStepped (old : List BodyState) (r : Run) : Type 0 where
  pub states : AreAllStates r.states
  pub rows : AreRowsBelow (length r.states) r.rows
  pub long : length r.states ≡ length old
  pub same : AreSameBeside old r.states
  pub courses : HaveCourses r.states
  pub momentum : total r.states ≡ plus (total old) (added_in r)
