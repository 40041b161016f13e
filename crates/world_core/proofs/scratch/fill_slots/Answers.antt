use Rattle.std.proofs.Common.{◌∙◌, arith}
use Rattle.body_handles.specs.declared.handle.Handle.{Handle}
use Rattle.world_core.proofs.TellingLaws.{slots_all, slots_more}
use Rattle.world_core.proofs.scratch.fill_slots.Goals as goal

abbrev nobody : Handle
nobody = record { slot = 0; generation = 0 }

pub loop-place-preserved : goal.loop-place-preserved
loop-place-preserved c = record {
  slots = slots_more c.args.handles.now c.loop-place.place nobody c.loop-place.slots.items c.push_slot.new.slots.items c.loop-place-test.true c.push_slot.ensures.items ∙ c.loop-place.invariant.slots;
  len = omega (arith, c.push_slot.ensures.len, c.loop-place.invariant.len);
  capacity = omega (arith, c.push_slot.ensures.capacity, c.loop-place.invariant.capacity);
}

pub returns-clause-slots : goal.returns-clause-slots
returns-clause-slots c = slots_all c.args.handles.now c.loop-place.place c.loop-place.slots.items c.loop-place-test.false c.loop-place.invariant.slots
