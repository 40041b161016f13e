use Rattle.std.proofs.Common.{◌≡◌, ◌++◌, drop}
use Rattle.serde_json.specs.View.{items_view}
use Rattle.world_file_base.specs.SavedSlots.{joint_key, joints_in, slot_entries_in}
use Rattle.world_file_base.specs.AskedSlots.{joints_asks}
use Rattle.world_file_base.proofs.joint_slots.read_each_joint.Given as goal

abbrev pub invariant-loop-slot : goal.invariant-loop-slot
invariant-loop-slot l = record {
  slot_entries : l.joints.slot_entries.items ++ slot_entries_in joint_key (items_view (drop l.slot-index l.slots)) ≡ slot_entries_in joint_key (items_view l.slots);
  joints : l.joints.joints.items ++ joints_in l.version (items_view (drop l.slot-index l.slots)) ≡ joints_in l.version (items_view l.slots);
  asked : joints_asks l.version (items_view (drop l.slot-index l.slots)) l.reader ≡ joints_asks l.version (items_view l.slots) l.fn.reader;
}
