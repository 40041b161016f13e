use Rattle.std.proofs.Common.{ap, arith, refl, ◌∙◌}
use Rattle.momenta.specs.Motions.{pulled, speed_clamped}
use Rattle.colour_solver.specs.Passes.{gain, pass}
use Rattle.colour_solver.proofs.TickLaws.{states_after}
use Rattle.part_runs.specs.Runs.{stand_of, ticks_stand}
use Rattle.part_solver.proofs.TickSteps.{awake_at, begun_stand, can_pull, small_momenta}
use Rattle.part_solver.proofs.PassSteps.{with_bodies}
use Rattle.part_solver.proofs.run.begin_tick.Goals as goal

pub pass_two-requires-clause-few : goal.pass_two-requires-clause-few
pass_two-requires-clause-few c = omega (arith, c.requires.standing.sound.long, c.know.ensures.few)

pub pass_two-requires-clause-awake : goal.pass_two-requires-clause-awake
pass_two-requires-clause-awake c =
    let t = c.args.step.now in
    let k = c.args.turn.number in
    let s = ticks_stand c.args.turn.tick t.gravity (stand_of t) in
    c.as_slice.ensures.value ∙ awake_at t k s c.args.lists.now c.requires.standing (c.parts_at_home.ensures t k s (c.ticks_are_reached.ensures t c.args.turn.tick))

pub pass_two-requires-clause-reciprocals : goal.pass_two-requires-clause-reciprocals
pass_two-requires-clause-reciprocals c = λ slot s e. (c.requires.standing.sound.states slot s e).reciprocals

pub pass_two-requires-clause-fits : goal.pass_two-requires-clause-fits
pass_two-requires-clause-fits c = rw c.gravity-gravity.ensures (can_pull c.args.step.now.gravity c.args.lists.now.states.items c.know.ensures.gravity c.requires.standing.sound.states)

pub pass_two-requires-clause-small : goal.pass_two-requires-clause-small
pass_two-requires-clause-small c = small_momenta c.args.lists.now.states.items c.requires.standing.sound.states

pub returns-clause-standing : goal.returns-clause-standing
returns-clause-standing c =
    let t = c.args.step.now in
    let k = c.args.turn.number in
    let s = ticks_stand c.args.turn.tick t.gravity (stand_of t) in
    let old = c.args.lists.now in
    let new = c.pass_two.new.states.items in
    let made = c.pass_two.ensures in
    let walk = c.requires.standing.sound.walk in
    let is = rw c.gravity-gravity.ensures at made.states in
    begun_stand t k s old _ c.requires.standing (c.parts_at_home.ensures t k s (c.ticks_are_reached.ensures t c.args.turn.tick))
    (with_bodies t k old _ c.requires.standing.sound refl (record { awake = walk.awake; carried = walk.carried; moves = walk.moves; ends = walk.ends }) made.same.long
    (states_after (pulled t.gravity) speed_clamped old.states.items new is c.requires.standing.sound.states (λ slot b e moves. (made.gives slot b e moves).motion)))
    refl is

pub returns-clause-pulled : goal.returns-clause-pulled
returns-clause-pulled c =
    let t = c.args.step.now in
    rw c.gravity-gravity.ensures at (c.pass_two.ensures.first ∙ ap (gain (pulled c.gravity-gravity.result)) c.requires.standing.states)

pub returns-clause-limited : goal.returns-clause-limited
returns-clause-limited c =
    rw c.gravity-gravity.ensures at (c.pass_two.ensures.second ∙ ap (λ ss. gain speed_clamped (pass (pulled c.gravity-gravity.result) ss)) c.requires.standing.states)
