use Rattle.std.proofs.Common.{ap, arith, length, refl, ◌∙◌}
use Rattle.momenta.specs.Motions.{advanced, speed_clamped}
use Rattle.colour_solver.specs.Passes.{carry, gain, pass}
use Rattle.colour_solver.specs.declared.phase.Phase.TheVariants.{Solve}
use Rattle.colour_solver.proofs.TickLaws.{states_after}
use Rattle.part_runs.specs.Laws.{IsPartAt}
use Rattle.part_runs.specs.Runs.{solved_stand, stand_of, ticks_stand}
use Rattle.part_solver.proofs.PassSteps.{visited_reached, with_bodies}
use Rattle.part_solver.proofs.TickSteps.{awake_at, can_limit, carried_last, carried_long, courses_last, ended_stand, next_stand, small_momenta}
use Rattle.part_solver.proofs.run.end_tick.Goals as goal

pub pass_two-moved-requires-clause-few : goal.pass_two-moved-requires-clause-few
pass_two-moved-requires-clause-few c = omega (arith, c.requires.standing.sound.long, c.know.ensures.few)

pub pass_two-moved-requires-clause-awake : goal.pass_two-moved-requires-clause-awake
pass_two-moved-requires-clause-awake c =
    let t = c.args.step.now in
    let k = c.args.turn.number in
    let s = solved_stand t.gravity (ticks_stand c.args.turn.tick t.gravity (stand_of t)) in
    let at : IsPartAt t k s = c.parts_at_home.ensures t k s (visited_reached c.visits_are_fair.ensures c.ticks_are_reached.ensures c.stands_are_reached.ensures t c.args.turn.tick Solve) in
    c.as_slice.ensures.value ∙ awake_at t k s c.args.lists.now c.requires.standing at

pub pass_two-moved-requires-clause-reciprocals : goal.pass_two-moved-requires-clause-reciprocals
pass_two-moved-requires-clause-reciprocals c = λ slot s e. (c.requires.standing.sound.states slot s e).reciprocals

pub pass_two-moved-requires-clause-fits : goal.pass_two-moved-requires-clause-fits
pass_two-moved-requires-clause-fits c = can_limit c.args.lists.now.states.items c.requires.standing.sound.states

pub pass_two-moved-requires-clause-small : goal.pass_two-moved-requires-clause-small
pass_two-moved-requires-clause-small c = small_momenta c.args.lists.now.states.items c.requires.standing.sound.states

pub carry_along-requires-clause-carried : goal.carry_along-requires-clause-carried
carry_along-requires-clause-carried c =
    let t = c.args.step.now in
    let k = c.args.turn.number in
    let s = solved_stand t.gravity (ticks_stand c.args.turn.tick t.gravity (stand_of t)) in
    let at : IsPartAt t k s = c.parts_at_home.ensures t k s (visited_reached c.visits_are_fair.ensures c.ticks_are_reached.ensures c.stands_are_reached.ensures t c.args.turn.tick Solve) in
    c.as_slice-2.ensures.value ∙ carried_last t k s c.args.lists.now c.pass_two-moved.new.states.items c.requires.standing at c.pass_two-moved.ensures.states

pub carry_along-requires-clause-states : goal.carry_along-requires-clause-states
carry_along-requires-clause-states c =
    states_after speed_clamped advanced c.args.lists.now.states.items c.pass_two-moved.new.states.items c.pass_two-moved.ensures.states c.requires.standing.sound.states c.pass_two-moved.ensures.gives

pub carry_along-requires-clause-courses : goal.carry_along-requires-clause-courses
carry_along-requires-clause-courses c =
    let t = c.args.step.now in
    let k = c.args.turn.number in
    let s = solved_stand t.gravity (ticks_stand c.args.turn.tick t.gravity (stand_of t)) in
    let at : IsPartAt t k s = c.parts_at_home.ensures t k s (visited_reached c.visits_are_fair.ensures c.ticks_are_reached.ensures c.stands_are_reached.ensures t c.args.turn.tick Solve) in
    courses_last t k s c.args.lists.now c.pass_two-moved.new.states.items c.requires.standing at c.know.ensures.can.courses c.pass_two-moved.ensures.states

pub returns-clause-standing : goal.returns-clause-standing
returns-clause-standing c =
    let t = c.args.step.now in
    let k = c.args.turn.number in
    let s = solved_stand t.gravity (ticks_stand c.args.turn.tick t.gravity (stand_of t)) in
    let at : IsPartAt t k s = c.parts_at_home.ensures t k s (visited_reached c.visits_are_fair.ensures c.ticks_are_reached.ensures c.stands_are_reached.ensures t c.args.turn.tick Solve) in
    let old = c.args.lists.now in
    let moved = c.pass_two-moved.ensures in
    let last = c.carry_along.ensures in
    let walk = c.requires.standing.sound.walk in
    next_stand t k c.args.turn.tick _
    (ended_stand t k s old _ c.requires.standing at
    (with_bodies t k old _ c.requires.standing.sound refl (record { awake = walk.awake; carried = walk.carried; moves = walk.moves; ends = walk.ends }) (ap length last.value ∙ carried_long c.pass_two-moved.new.states.items ∙ moved.same.long) last.states)
    refl (last.value ∙ ap carry moved.states))

pub returns-clause-limited : goal.returns-clause-limited
returns-clause-limited c = c.pass_two-moved.ensures.first ∙ ap (gain speed_clamped) c.requires.standing.states

pub returns-clause-moved : goal.returns-clause-moved
returns-clause-moved c = c.pass_two-moved.ensures.second ∙ ap (λ ss. gain advanced (pass speed_clamped ss)) c.requires.standing.states
