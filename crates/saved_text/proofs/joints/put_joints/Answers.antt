use Rattle.std.proofs.Common.{drop, arith, nat_eq}
use Rattle.std.specs.HashMap.{get}
use Rattle.world_file_base.specs.SavedSlots.{joint_slots}
use Rattle.world_file.specs.Taken.{joint_colours_by}
use Rattle.saved_text.proofs.Adding.{list_added, list_begun, wrote}
use Rattle.saved_text.proofs.Ends.{joints_end}
use Rattle.saved_text.proofs.joints.put_joints.Goals as goal

pub loop-slot-init : goal.loop-slot-init
loop-slot-init c =
    list_begun (joint_slots c.args.slot_entries.now c.args.joint_entries.now c.args.joints.now (joint_colours_by (get nat_eq c.args.by_number.now) 0 c.args.joint_entries.now)) _ _ (wrote _ _ _ _ c.in_ok-begin_array.ensures)

pub returns : goal.returns
returns c =
    let k = c.loop-slot.slot in
    let all = c.args.slot_entries.now in
    let slot_entries = c.args.joint_entries.now in
    let joints = c.args.joints.now in
    let colours = joint_colours_by (get nat_eq c.args.by_number.now) in
    record {
      text = list_added (joint_slots all (drop k slot_entries) (drop k joints) (colours k (drop k slot_entries))) (joint_slots all slot_entries joints (colours 0 slot_entries)) _ _ _
          (joints_end all slot_entries joints colours c.lesser-slot-end.result k c.lesser-slot-end.ensures.one (omega arith)) c.loop-slot.invariant (wrote _ _ _ _ c.in_ok-end_array.ensures);
    }
