-- The visit of a row is what the definition makes of its joint.
use Rattle.std.proofs.Common.{refl}
use Rattle.joint_rows.specs.Joints as joints
use Rattle.joint_rows.specs.Rows as rows
use Rattle.joint_rows.specs.Laws.{RowsAreJoints, VisitsAlike}

warm_alike : VisitsAlike joints.joint_warmed rows.joint_warmed
unfolding rows.joint_warmed rows.joint_row
warm_alike bodies start e j = refl

solve_alike : VisitsAlike joints.joint_solved rows.joint_solved
unfolding rows.joint_solved rows.joint_row rows.stretch_now
solve_alike bodies start e j = refl

pub rows_are_joints : RowsAreJoints
rows_are_joints = record { warm = warm_alike; solve = solve_alike }
