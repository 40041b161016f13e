use Rattle.colour_solver.specs.States.{AreAllStates, HaveCourses}
use Rattle.colour_solver.proofs.CourseLaws.{HasCarried}
use Rattle.colour_solver.proofs.courses.carry_along.Given as goal

abbrev pub invariant-loop-place : goal.invariant-loop-place
invariant-loop-place l = record {
  walked : HasCarried l.fn.states.items l.carried l.place l.states.items;
  all_states : AreAllStates l.states.items;
  courses : HaveCourses l.states.items;
}
