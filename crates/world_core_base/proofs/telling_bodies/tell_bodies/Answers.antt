use Rattle.std.proofs.Common.{◌<◌, ◌≤◌, length, arith}
use Rattle.world_core_base.proofs.TellLaws.{told_first, told_last, told_more, told_there}
use Rattle.world_core_base.proofs.telling_bodies.tell_bodies.Goals as goal

pub loop-slot-init : goal.loop-slot-init
loop-slot-init c = told_first c.args.islands.now.labels c.args.bodies.now.items c.args.states.now.items c.requires.states

pub tell_slot-requires-clause-body : goal.tell_slot-requires-clause-body
tell_slot-requires-clause-body c =
    let below : c.loop-slot.slot < length c.args.bodies.now.items = omega (arith, c.loop-slot-test.true, c.len-slot-end.ensures) in
    (told_there c.args.islands.now.labels c.args.bodies.now.items c.loop-slot.slot c.loop-slot.bodies.items c.loop-slot.states.items c.loop-slot.gain c.requires.bodies below c.loop-slot.invariant).body

pub loop-slot-preserved : goal.loop-slot-preserved
loop-slot-preserved c =
    let below : c.loop-slot.slot < length c.args.bodies.now.items = omega (arith, c.loop-slot-test.true, c.len-slot-end.ensures) in
    let label = c.label_of.ensures.value in
    told_more c.args.islands.now.labels c.args.bodies.now.items c.loop-slot.slot c.loop-slot.bodies.items c.tell_slot.new.bodies.items c.loop-slot.states.items c.tell_slot.new.states.items c.loop-slot.gain c.tell_slot.result c.plus-gain.result c.requires.bodies below c.loop-slot.invariant
    (rw label at c.tell_slot.ensures.bodies) (rw label at c.tell_slot.ensures.states) (rw label at c.tell_slot.ensures.x) (rw label at c.tell_slot.ensures.y) c.tell_slot.ensures.small c.plus-gain.ensures.x c.plus-gain.ensures.y

pub returns-clause-bodies : goal.returns-clause-bodies
returns-clause-bodies c =
    let ended : length c.args.bodies.now.items ≤ c.loop-slot.slot = omega (arith, c.loop-slot-test.false, c.len-slot-end.ensures) in
    told_last c.args.islands.now.labels c.args.bodies.now.items c.loop-slot.slot c.loop-slot.bodies.items c.loop-slot.states.items c.loop-slot.gain ended c.loop-slot.invariant
