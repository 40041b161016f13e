-- The rows that the solver makes of joints say what the definition says of the joints.
use Rattle.std.specs.Prelude.{◌≡◌}
use Rattle.momenta.specs.declared.state.Ends.{Ends}
use Rattle.joint_rows.specs.declared.joint.Joint.{Joint}
use Rattle.joint_rows.specs.declared.row.JointBodies.{JointBodies}
use Rattle.joint_rows.specs.declared.row.JointRow.{JointRow}
use Rattle.joint_rows.specs.declared.solve.JointAfter.{JointAfter}
use Rattle.joint_rows.specs.Joints.{SolvedJoint}
use Rattle.joint_rows.specs.Joints as joints
use Rattle.joint_rows.specs.Rows as rows

-- the row of the joint, and the bodies
abbrev pub row_of : JointBodies → Ends → SolvedJoint → JointAfter
row_of bodies start s = record { row = rows.joint_row bodies start s.joint; ends = s.ends }

-- a visit of the joint's row leaves the row of what the definition leaves of the joint, and the same bodies
abbrev pub VisitsAlike : (Ends → Joint → Ends → SolvedJoint) → (JointRow → Ends → JointAfter) → Type 0
VisitsAlike f g = (bodies : JointBodies) (start e : Ends) (j : Joint) → g (rows.joint_row bodies start j) e ≡ row_of bodies start (f start j e)

pub record RowsAreJoints : Type 0 where
  pub warm : VisitsAlike joints.joint_warmed rows.joint_warmed
  pub solve : VisitsAlike joints.joint_solved rows.joint_solved
