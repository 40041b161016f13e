use Rattle.std.proofs.Common.{◌≡◌, drop}
use Rattle.world_core_base.specs.ConstraintRows.{with_joint_rows}
use Rattle.world_core_base.proofs.impulses.put_joint_impulses.Given as goal

abbrev pub invariant-loop-row : goal.invariant-loop-row
invariant-loop-row l = with_joint_rows l.joints.joints (drop l.row-index l.rows) ≡ with_joint_rows l.initial.joints.joints l.rows
