use Rattle.joint_rows.proofs.JointRows as joint_rows
use Rattle.joint_rows.proofs.laws.rows_are_joints.Goals as goal

pub returns : goal.returns
returns c = joint_rows.rows_are_joints
