use Rattle.world_core_base.proofs.GivenJointLaws.{table_given}
use Rattle.world_core_base.proofs.joint_table.JointTable.from_joints.Goals as goal

pub invariant_of-result : goal.invariant_of-result
invariant_of-result c = table_given c.args.joints.now c.in_ok-from_slice.field-0.items c.in_ok-list_ends.field-0 _ c.in_ok-from_slice.ensures.items c.requires c.in_ok-list_ends.ensures.ends
