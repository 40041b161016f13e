use Rattle.std.proofs.Common.{refl, None, slice_index_or}
use Rattle.std.specs.Prelude.{option_map}
use Rattle.plain_world.specs.Changes.{is_awake_in}
use Rattle.plain_world.specs.Sleep.{timed}
use Rattle.world_core_base.proofs.TimeLaws.{can_time, mapped_first, mapped_last, mapped_more, mapped_there, timed_others}
use Rattle.world_core_base.proofs.timing.time_bodies.Goals as goal

pub loop-place-init : goal.loop-place-init
loop-place-init c = mapped_first is_awake_in (option_map (timed c.args.ticks)) c.args.bodies.now.items c.args.awake.now (timed_others c.args.ticks) c.requires.awake

pub time_slot-requires-clause-slot : goal.time_slot-requires-clause-slot
time_slot-requires-clause-slot c =
    (mapped_there is_awake_in (option_map (timed c.args.ticks)) c.args.bodies.now.items c.args.awake.now c.loop-place.place (slice_index_or c.args.awake.now c.loop-place.place 0) c.loop-place.bodies.items None c.loop-place.invariant c.loop-place-test.true refl).now_long

pub time_slot-requires-clause-body : goal.time_slot-requires-clause-body
time_slot-requires-clause-body c =
    can_time c.args.bodies.now.items c.loop-place.bodies.items (slice_index_or c.args.awake.now c.loop-place.place 0) c.requires.bodies c.requires.timers
    (mapped_there is_awake_in (option_map (timed c.args.ticks)) c.args.bodies.now.items c.args.awake.now c.loop-place.place (slice_index_or c.args.awake.now c.loop-place.place 0) c.loop-place.bodies.items None c.loop-place.invariant c.loop-place-test.true refl)

pub loop-place-preserved : goal.loop-place-preserved
loop-place-preserved c =
    mapped_more is_awake_in (option_map (timed c.args.ticks)) c.args.bodies.now.items c.args.awake.now c.loop-place.place (slice_index_or c.args.awake.now c.loop-place.place 0) c.loop-place.bodies.items c.time_slot.new.bodies.items None (timed_others c.args.ticks) c.loop-place.invariant c.loop-place-test.true refl c.time_slot.ensures

pub returns : goal.returns
returns c = mapped_last is_awake_in (option_map (timed c.args.ticks)) c.args.bodies.now.items c.args.awake.now c.loop-place.place c.loop-place.bodies.items c.loop-place.invariant c.loop-place-test.false
