-- Trusted: a step's ticks and its restitution on the dense arrays: passes over the bodies and the constraints, and what
-- each adds to the movers' momentum.
use Rattle.std.specs.Prelude.{ℕ, zero, suc, ◌^◌, List}
use Rattle.fixed_geom.specs.Vectors.{IsWithin, plus, zero_vector}
use Rattle.fixed_geom.specs.declared.vectors.Vec2.{Vec2}
use Rattle.momenta.specs.Motions.{IsMass, IsMotion, IsPulled, pulled, speed_clamped, advanced, velocity}
use Rattle.momenta.specs.Gains.{IsGain}
use Rattle.momenta.specs.declared.mass.MassData.{MassData}
use Rattle.momenta.specs.declared.motion.Motion.{Motion}
use Rattle.momenta.specs.declared.state.BodyState.{BodyState}
use Rattle.momenta.specs.declared.state.Ends.{Ends}
use Rattle.colour_solver_base.specs.RowsAfter.{RowAfter}
use Rattle.colour_solver.specs.declared.constraint_row.ConstraintRow.{ConstraintRow}
use Rattle.colour_solver.specs.declared.ticks.StepSums.{StepSums}
use Rattle.colour_solver.specs.Passes.{carry, pass, gain}
use Rattle.colour_solver.specs.ConstraintVisits.{constraint_bounced, constraint_slots, constraint_solved, constraint_warmed}
use Rattle.colour_solver.specs.States.{as_vector}
use Rattle.colour_solver.specs.RowVisits.{passed, rows_passed, share}

-- the bodies and the constraints, and what gravity, immovable bodies, and the speed limit with the edge of the world
-- have added since the step began
pub record Run : Type 0 where
  pub states : List BodyState
  pub rows : List ConstraintRow
  pub gravity : Vec2
  pub immovable : Vec2
  pub clamp : Vec2

-- gravity, booked as such
abbrev pub pull_all : Vec2 → Run → Run
pull_all g r = record r {
  states = pass (pulled g) r.states;
  gravity = plus r.gravity (gain (pulled g) r.states);
}

-- a change that is booked as Clamp: the speed limit, and the move with its stop at the edge of the world
abbrev pub clamp_all : (MassData → Motion → Motion) → Run → Run
clamp_all f r = record r {
  states = pass f r.states;
  clamp = plus r.clamp (gain f r.states);
}

-- a pass over the constraints; what immovable bodies give is booked as Immovable
abbrev pub visit_all : (ConstraintRow → Ends → RowAfter ConstraintRow) → Run → Run
visit_all f r = record r {
  states = passed constraint_slots f r.states r.rows;
  rows = rows_passed constraint_slots f r.states r.rows;
  immovable = plus r.immovable (share constraint_slots f r.states r.rows);
}

-- what is carried along moves on, and adds nothing to the movers' momentum
abbrev pub carry_all : Run → Run
carry_all r = record r { states = carry r.states }

-- gravity, the speed limit, the warm start, the solver's pass, the speed limit again, the move, and what is carried
-- along
unfoldable pub tick : Vec2 → Run → Run
tick g r = carry_all (clamp_all advanced (clamp_all speed_clamped (visit_all constraint_solved (visit_all constraint_warmed (clamp_all speed_clamped (pull_all g r))))))

abbrev pub ticks : ℕ → Vec2 → Run → Run
ticks zero g r = r
ticks (suc n) g r = tick g (ticks n g r)

-- all ticks, and then the restitution
unfoldable pub ran : ℕ → Vec2 → Run → Run
ran n g r = visit_all constraint_bounced (ticks n g r)

abbrev pub start : List BodyState → List ConstraintRow → Run
start states rows = record { states = states; rows = rows; gravity = zero_vector; immovable = zero_vector; clamp = zero_vector }

-- the bodies and constraints with the sums that the code has kept
abbrev pub run_of : List BodyState → List ConstraintRow → StepSums → Run
run_of states rows s = record { states = states; rows = rows; gravity = as_vector s.gravity; immovable = as_vector s.immovable; clamp = as_vector s.clamp }

pub record AreSums (n : ℕ) (s : StepSums) : Type 0 where
  pub gravity : IsGain n s.gravity
  pub immovable : IsGain n s.immovable
  pub clamp : IsGain n s.clamp

-- all that has been added
abbrev pub added : StepSums → Vec2
added s = plus (as_vector s.gravity) (plus (as_vector s.immovable) (as_vector s.clamp))

-- ---- one mover, between the changes of a tick

pub record CanPull (g : Vec2) (m : MassData) (s : Motion) : Type 0 where
  pub gravity : IsWithin (2 ^ 16) g
  pub mass : IsMass m
  pub motion : IsMotion m s

pub record CanLimit (m : MassData) (s : Motion) : Type 0 where
  pub mass : IsMass m
  pub motion : IsPulled m s

pub record CanMove (m : MassData) (s : Motion) : Type 0 where
  pub mass : IsMass m
  pub motion : IsMotion m s
  pub slow : IsWithin (2 ^ 20) (velocity m.mass s.p)
