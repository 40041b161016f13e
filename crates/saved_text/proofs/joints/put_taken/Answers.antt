use Rattle.std.proofs.Common.{◌∷◌, [], Some, codes}
use Rattle.world_file_base.specs.SavedJoints.{joint_data}
use Rattle.world_file_base.specs.SavedSlots.{joint_slot_of}
use Rattle.world_file_base.specs.Written.{natural}
use Rattle.saved_text.proofs.Adding.{member_added, members_then, object_added, wrote}
use Rattle.saved_text.proofs.Objects.{joint_slot_object}
use Rattle.saved_text.proofs.joints.put_taken.Goals as goal

pub returns : goal.returns
returns c =
    let slot_entries = c.args.slot_entries.now in
    let slot_entry = c.args.slot_entry in
    let j = c.args.joint.now in
    let joint = (codes "joint", joint_data slot_entries j c.args.colour) ∷ [] in
    let generation = (codes "generation", natural slot_entry.generation) ∷ [] in
    let named = member_added (codes "joint") (joint_data slot_entries j c.args.colour) _ _ _ (wrote _ _ _ _ c.in_ok-key.ensures) c.in_ok-put_joint.ensures.text in
    record {
      text = object_added ((codes "generation", natural slot_entry.generation) ∷ joint) (joint_slot_of slot_entries slot_entry (Some j) c.args.colour) _ _ _ _ (joint_slot_object slot_entries slot_entry j c.args.colour)
          (wrote _ _ _ _ c.in_ok-begin_object.ensures) (members_then generation joint _ _ _ c.in_ok-put_members.ensures.text named) (wrote _ _ _ _ c.in_ok-end_object.ensures);
    }
