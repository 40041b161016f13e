use Rattle.std.proofs.Common.{◌≡◌, ◌++◌, drop, map}
use Rattle.serde_json.specs.View.{view}
use Rattle.world_file_base.specs.SavedSlots.{joint_slots}
use Rattle.world_file_base.proofs.joint_slots.joints_value.Given as goal

abbrev pub invariant-loop-slot : goal.invariant-loop-slot
invariant-loop-slot l =
    map view l.items.items ++ joint_slots l.slot_entries (drop l.slot l.joint_entries) (drop l.slot l.joints) (drop l.slot l.colours) ≡ joint_slots l.slot_entries l.joint_entries l.joints l.colours
