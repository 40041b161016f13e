use Rattle.std.proofs.Common.{◌≡◌, ◌++◌, drop}
use Rattle.serde_json.specs.View.{items_view}
use Rattle.world_file_base.specs.SavedSlots.{bodies_in, body_key, memberships_in, slot_entries_in}
use Rattle.world_file_base.specs.AskedSlots.{bodies_asks}
use Rattle.world_file_base.proofs.body_slots.read_each_body.Given as goal

abbrev pub invariant-loop-slot : goal.invariant-loop-slot
invariant-loop-slot l = record {
  slot_entries : l.bodies.slot_entries.items ++ slot_entries_in body_key (items_view (drop l.slot-index l.slots)) ≡ slot_entries_in body_key (items_view l.slots);
  bodies : l.bodies.bodies.items ++ bodies_in l.most_ticks (items_view (drop l.slot-index l.slots)) ≡ bodies_in l.most_ticks (items_view l.slots);
  memberships : l.bodies.memberships.items ++ memberships_in (items_view (drop l.slot-index l.slots)) ≡ memberships_in (items_view l.slots);
  asked : bodies_asks l.most_ticks (items_view (drop l.slot-index l.slots)) l.reader ≡ bodies_asks l.most_ticks (items_view l.slots) l.fn.reader;
}
