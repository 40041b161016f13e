use Rattle.world_file_base.specs.SavedJoints.{joint_data}
use Rattle.saved_text.proofs.Objects.{joint_object}
use Rattle.saved_text.proofs.joints.put_named.Goals as goal

pub returns : goal.returns
returns c = record { text = λ slot_entries first second. c.put_object.ensures.text (joint_data slot_entries c.args.joint.now c.args.colour) (rw (first, second) (joint_object slot_entries c.args.joint.now c.args.colour)) }
