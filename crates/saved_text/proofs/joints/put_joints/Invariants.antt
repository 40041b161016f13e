use Rattle.std.proofs.Common.{drop, nat_eq}
use Rattle.std.specs.HashMap.{get}
use Rattle.world_file_base.specs.SavedSlots.{joint_slots}
use Rattle.world_file.specs.Taken.{joint_colours_by}
use Rattle.saved_text.specs.Tokens.{ItemsLeft}
use Rattle.saved_text.proofs.joints.put_joints.Given as goal

abbrev pub invariant-loop-slot : goal.invariant-loop-slot
invariant-loop-slot l =
    ItemsLeft (joint_slots l.slot_entries (drop l.slot l.joint_entries) (drop l.slot l.joints) (joint_colours_by (get nat_eq l.by_number) l.slot (drop l.slot l.joint_entries)))
    (joint_slots l.slot_entries l.joint_entries l.joints (joint_colours_by (get nat_eq l.by_number) 0 l.joint_entries)) l.fn.out l.out
