use Rattle.std.proofs.Common.{drop, arith}
use Rattle.world_file_base.specs.SavedSlots.{body_slots}
use Rattle.saved_text.proofs.Adding.{list_added, list_begun, wrote}
use Rattle.saved_text.proofs.Ends.{bodies_end}
use Rattle.saved_text.proofs.bodies.put_bodies.Goals as goal

pub loop-slot-init : goal.loop-slot-init
loop-slot-init c = list_begun (body_slots 0 c.args.slot_entries.now c.args.bodies.now c.args.labels.now) _ _ (wrote _ _ _ _ c.in_ok-begin_array.ensures)

pub returns : goal.returns
returns c =
    let k = c.loop-slot.slot in
    let slot_entries = c.args.slot_entries.now in
    let bodies = c.args.bodies.now in
    let labels = c.args.labels.now in
    record {
      text = list_added (body_slots k (drop k slot_entries) (drop k bodies) labels) (body_slots 0 slot_entries bodies labels) _ _ _
          (bodies_end slot_entries bodies labels c.lesser-slot-end.result k c.lesser-slot-end.ensures.one (omega arith)) c.loop-slot.invariant (wrote _ _ _ _ c.in_ok-end_array.ensures);
    }
