use Rattle.std.proofs.Common.{arith, refl, slice_index_or}
use Rattle.world_core_base.proofs.TellSomeLaws.{some_first, some_last, some_more}
use Rattle.world_core_base.proofs.telling_bodies.tell_listed.Goals as goal

pub loop-place-init : goal.loop-place-init
loop-place-init c = some_first c.args.islands.now.labels c.args.slots.now c.args.bodies.now.items c.args.states.now.items c.args.awake.now _ c.requires.bodies c.requires.states c.requires.awake c.requires.others

pub tell_one-requires-clause-bodies : goal.tell_one-requires-clause-bodies
tell_one-requires-clause-bodies c = c.loop-place.invariant.bodies

pub tell_one-requires-clause-states : goal.tell_one-requires-clause-states
tell_one-requires-clause-states c = c.loop-place.invariant.states

pub tell_one-requires-clause-awake : goal.tell_one-requires-clause-awake
tell_one-requires-clause-awake c = c.loop-place.invariant.awake

pub tell_one-requires-clause-room : goal.tell_one-requires-clause-room
tell_one-requires-clause-room c = omega (arith, c.loop-place.invariant.long, c.loop-place.invariant.room, c.requires.room)

pub tell_one-requires-clause-few : goal.tell_one-requires-clause-few
tell_one-requires-clause-few c = omega (arith, c.loop-place.invariant.long, c.requires.few)

pub loop-place-preserved : goal.loop-place-preserved
loop-place-preserved c =
    let label = c.label_of.ensures.value in
    some_more c.args.islands.now.labels c.args.slots.now c.args.bodies.now.items _ c.loop-place.place (slice_index_or c.args.slots.now c.loop-place.place 0) 0 c.loop-place.bodies.items c.tell_one.new.bodies.items c.loop-place.states.items c.tell_one.new.states.items c.loop-place.awake c.tell_one.new.awake _ _ c.loop-place.gain c.tell_one.result c.plus-gain.result
    c.loop-place-test.true refl c.loop-place.invariant (rw label at c.tell_one.ensures.bodies) c.tell_one.ensures.states c.tell_one.ensures.awake c.tell_one.ensures.capacity c.tell_one.ensures.momentum c.tell_one.ensures.small c.plus-gain.ensures.x c.plus-gain.ensures.y

pub returns-clause-bodies : goal.returns-clause-bodies
returns-clause-bodies c =
    some_last c.args.islands.now.labels c.args.slots.now c.args.bodies.now.items _ c.loop-place.place c.loop-place.bodies.items c.loop-place.states.items c.loop-place.awake _ c.loop-place.gain c.loop-place-test.false c.loop-place.invariant

pub returns-clause-capacity : goal.returns-clause-capacity
returns-clause-capacity c = c.loop-place.invariant.room
