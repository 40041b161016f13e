-- Trusted: The row that the solver makes of a joint for a step, and what its impulses do to it and to its two bodies.
use Rattle.std.specs.Prelude.{◌≤◌, ℤ, neg_ℤ, ◌+ℤ◌, unsigned_abs}
use Rattle.momenta.specs.declared.state.Ends.{Ends}
use Rattle.momenta.specs.declared.line.Exerted.{Exerted}
use Rattle.momenta.specs.Impulses.{solved_impulse, warmed}
use Rattle.momenta.specs.ImpulseBounds.{IsLine}
use Rattle.joint_rows.specs.declared.limits.TheConstants.{MAX_JOINT_IMPULSE, MAX_STRETCH}
use Rattle.joint_rows.specs.declared.joint.Joint.{Joint}
use Rattle.joint_rows.specs.declared.row.JointBodies.{JointBodies}
use Rattle.joint_rows.specs.declared.row.JointRow.{JointRow}
use Rattle.joint_rows.specs.declared.solve.JointAfter.{JointAfter}
use Rattle.joint_rows.specs.Joints.{joint_bias, joint_line, joint_stretch, parted_along}

-- the row of a joint whose bodies stand as they do when the step begins
unfoldable pub joint_row : JointBodies → Ends → Joint → JointRow
joint_row bodies start j = record { bodies = bodies; line = joint_line j start; stretch = joint_stretch j start; impulse = j.impulse }

-- by how much the anchors' distance exceeds the joint's length now, the centres having moved since the step began
unfoldable pub stretch_now : JointRow → Ends → ℤ
stretch_now r e = r.stretch +ℤ parted_along r.line.direction e

-- the kept impulse given once more
unfoldable pub joint_warmed : JointRow → Ends → JointAfter
joint_warmed r e = record { row = r; ends = warmed r.line r.impulse e }

abbrev pub with_exerted : JointRow → Exerted → JointAfter
with_exerted r x = record { row = record r { impulse = x.total }; ends = x.ends }

-- one impulse towards the bias: pulling or pushing
unfoldable pub joint_solved : JointRow → Ends → JointAfter
joint_solved r e = with_exerted r (solved_impulse r.line (joint_bias (stretch_now r e)) (neg_ℤ MAX_JOINT_IMPULSE) MAX_JOINT_IMPULSE r.impulse e)

-- what must hold of a row
pub record IsJointRow (r : JointRow) : Type 0 where
  pub line : IsLine r.line
  pub stretch : unsigned_abs r.stretch ≤ unsigned_abs MAX_STRETCH
  pub impulse : unsigned_abs r.impulse ≤ unsigned_abs MAX_JOINT_IMPULSE
