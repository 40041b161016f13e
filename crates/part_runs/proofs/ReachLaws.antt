-- Whatever a step does to its bodies and rows, the same slots have movers, and rows are where they were, each of its
-- constraint.
use Rattle.std.proofs.Common.{zero, suc, map, refl, ◌∙◌}
use Rattle.fixed_geom.specs.declared.vectors.Vec2.{Vec2}
use Rattle.momenta.specs.Motions.{advanced, pulled, speed_clamped}
use Rattle.momenta.specs.declared.mass.MassData.{MassData}
use Rattle.momenta.specs.declared.motion.Motion.{Motion}
use Rattle.momenta.specs.declared.state.BodyState.{BodyState}
use Rattle.momenta.specs.declared.state.Ends.{Ends}
use Rattle.colour_solver_base.specs.RowsAfter.{RowAfter}
use Rattle.colour_solver.specs.declared.constraint_row.ConstraintRow.{ConstraintRow}
use Rattle.colour_solver.specs.ConstraintVisits.{constraint_bounced, constraint_solved, constraint_warmed}
use Rattle.colour_solver.specs.Passes.{carried_along, changed, pass}
use Rattle.colour_solver.specs.States.{HaveCourses}
use Rattle.colour_solver.proofs.CourseLaws.{courses-carry, courses_same}
use Rattle.part_runs.specs.Passes.{IsFairVisit}
use Rattle.part_runs.specs.Runs.{IsReached, Stand, Step, begun, ended, ran_stand, solved_stand, stand_of, ticks_stand, visited, warm_stand}
use Rattle.part_runs.specs.Laws.{StandsAreReached, TicksAreReached}
use Rattle.part_runs.proofs.AfterLaws.{names_after, slots_after}
use Rattle.part_runs.proofs.FairVisits.{all_bounced_fair, all_solved_fair, all_warmed_fair}
use Rattle.part_runs.proofs.HiddenLaws.{IsChange, beside-map}
use Rattle.part_runs.proofs.KeptLaws.{changed_same, stages_same}
use Rattle.part_runs.proofs.WholeLaws.{along_is, changed_is}

-- a change of each body
changed_reached : (h : BodyState → BodyState) → IsChange h → (t : Step) (s : Stand) → (HaveCourses s.states → HaveCourses (map h s.states)) → IsReached t s → IsReached t (record s { states = map h s.states })
changed_reached h is t s courses reached = record {
  movers = λ slot. (beside-map h is s.states).movable slot ∙ reached.movers slot;
  long = (beside-map h is s.states).long ∙ reached.long;
  mass = λ slot. (beside-map h is s.states).mass slot ∙ reached.mass slot;
  courses = λ all. courses (reached.courses all);
  slots = reached.slots;
  names = reached.names;
}

pub pass_reached : (f : MassData → Motion → Motion) (t : Step) (s : Stand) → IsReached t s → IsReached t (record s { states = pass f s.states })
pass_reached f t s reached = changed_reached (changed f) (changed_is f) t s (courses_same s.states (pass f s.states) (changed_same f s.states)) reached

-- a pass over the constraints
pub visited_reached : (f : ConstraintRow → Ends → RowAfter ConstraintRow) → IsFairVisit f → (t : Step) (s : Stand) → IsReached t s → IsReached t (visited f s)
visited_reached f fair t s reached =
    let same = stages_same f fair s.rows s.states in
    record {
      movers = λ slot. same.movable slot ∙ reached.movers slot;
      long = same.long ∙ reached.long;
      mass = λ slot. same.mass slot ∙ reached.mass slot;
      courses = λ all. courses_same s.states (visited f s).states same (reached.courses all);
      slots = slots_after f fair s.rows s.states ∙ reached.slots;
      names = names_after f fair s.rows s.states ∙ reached.names;
    }

pub begun_reached : (g : Vec2) (t : Step) (s : Stand) → IsReached t s → IsReached t (begun g s)
begun_reached g t s reached = pass_reached speed_clamped t (record s { states = pass (pulled g) s.states }) (pass_reached (pulled g) t s reached)

-- the speed limit, and the move
pub moved_reached : (t : Step) (s : Stand) → IsReached t s → IsReached t (record s { states = pass advanced (pass speed_clamped s.states) })
moved_reached t s reached = pass_reached advanced t (record s { states = pass speed_clamped s.states }) (pass_reached speed_clamped t s reached)

pub ended_reached : (t : Step) (s : Stand) → IsReached t s → IsReached t (ended s)
ended_reached t s reached =
    let moved : Stand = record s { states = pass advanced (pass speed_clamped s.states) } in
    changed_reached carried_along along_is t moved (courses-carry moved.states) (moved_reached t s reached)

pub stands_reached : StandsAreReached
stands_reached t s reached = record {
  begun = begun_reached t.gravity t s reached;
  visited = λ f fair. visited_reached f fair t s reached;
  ended = ended_reached t s reached;
}

pub first_reached : (t : Step) → IsReached t (stand_of t)
first_reached t = record { movers = λ slot. refl; long = refl; mass = λ slot. refl; courses = λ all. all; slots = refl; names = refl }

pub warm_reached : (t : Step) (s : Stand) → IsReached t s → IsReached t (warm_stand t.gravity s)
warm_reached t s reached = visited_reached constraint_warmed all_warmed_fair t (begun t.gravity s) (begun_reached t.gravity t s reached)

pub solved_reached : (t : Step) (s : Stand) → IsReached t s → IsReached t (solved_stand t.gravity s)
solved_reached t s reached = visited_reached constraint_solved all_solved_fair t (warm_stand t.gravity s) (warm_reached t s reached)

pub ticks_reached : TicksAreReached
ticks_reached t zero = first_reached t
ticks_reached t (suc count) = ended_reached t (solved_stand t.gravity (ticks_stand count t.gravity (stand_of t))) (solved_reached t (ticks_stand count t.gravity (stand_of t)) (ticks_reached t count))

pub ran_reached : (t : Step) → IsReached t (ran_stand t.count t.gravity (stand_of t))
ran_reached t = visited_reached constraint_bounced all_bounced_fair t (ticks_stand t.count t.gravity (stand_of t)) (ticks_reached t t.count)
