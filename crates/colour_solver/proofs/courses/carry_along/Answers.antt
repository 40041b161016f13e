use Rattle.std.proofs.Common.{◌<◌, length, slice_index_or, refl, arith, rules, add-one}
use Rattle.colour_solver.proofs.CourseLaws.{carried_first, carried_last, carried_more, carried_there, course_along, course_at, courses-set}
use Rattle.colour_solver.proofs.VisitLaws.{state_at, states-set}
use Rattle.colour_solver.proofs.courses.carry_along.Goals as goal

pub loop-place-init : goal.loop-place-init
loop-place-init c = record {
  walked = carried_first c.args.states.now.items c.args.carried.now c.requires.carried;
  all_states = c.requires.states;
  courses = c.requires.courses;
}

pub index_mut-requires : goal.index_mut-requires
index_mut-requires c =
    let there : slice_index_or c.args.carried.now c.loop-place.place 0 < length c.loop-place.states.items = carried_there c.args.states.now.items c.args.carried.now c.loop-place.place (slice_index_or c.args.carried.now c.loop-place.place 0) c.loop-place.states.items c.loop-place.invariant.walked c.loop-place-test.true refl in
    search (rules, there)

pub carry_body-requires-clause-state : goal.carry_body-requires-clause-state
carry_body-requires-clause-state c =
    state_at c.loop-place.states.items (slice_index_or c.args.carried.now c.loop-place.place 0) c.index_mut.result.now c.index_mut.result.now c.loop-place.invariant.all_states (carried_there c.args.states.now.items c.args.carried.now c.loop-place.place (slice_index_or c.args.carried.now c.loop-place.place 0) c.loop-place.states.items c.loop-place.invariant.walked c.loop-place-test.true refl) c.index_mut.ensures.value

pub carry_body-requires-clause-course : goal.carry_body-requires-clause-course
carry_body-requires-clause-course c =
    course_at c.loop-place.states.items (slice_index_or c.args.carried.now c.loop-place.place 0) c.index_mut.result.now c.index_mut.result.now c.loop-place.invariant.courses (carried_there c.args.states.now.items c.args.carried.now c.loop-place.place (slice_index_or c.args.carried.now c.loop-place.place 0) c.loop-place.states.items c.loop-place.invariant.walked c.loop-place-test.true refl) c.index_mut.ensures.value

pub loop-place-preserved : goal.loop-place-preserved
loop-place-preserved c =
    let slot = slice_index_or c.args.carried.now c.loop-place.place 0 in
    let known = c.loop-place.invariant in
    record {
      walked = rw add-one (carried_more c.args.states.now.items c.args.carried.now c.loop-place.place slot c.loop-place.states.items c.index_mut.result.now c.carry_body.new.body known.walked c.loop-place-test.true refl c.index_mut.ensures.value c.carry_body.ensures.value);
      all_states = states-set c.loop-place.states.items slot c.carry_body.new.body known.all_states c.carry_body.ensures.state;
      courses = rw c.carry_body.ensures.value (courses-set c.loop-place.states.items slot _ known.courses (course_along c.index_mut.result.now (course_at c.loop-place.states.items slot c.index_mut.result.now c.index_mut.result.now known.courses (carried_there c.args.states.now.items c.args.carried.now c.loop-place.place slot c.loop-place.states.items c.loop-place.invariant.walked c.loop-place-test.true refl) c.index_mut.ensures.value)));
    }

pub returns-clause-value : goal.returns-clause-value
returns-clause-value c = carried_last c.args.states.now.items c.args.carried.now c.loop-place.place c.loop-place.states.items c.loop-place.invariant.walked (omega (arith, c.loop-place-test.false))
