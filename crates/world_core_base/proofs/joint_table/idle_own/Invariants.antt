use Rattle.world_core_base.proofs.OwnJointLaws.{IsIdling}
use Rattle.world_core_base.proofs.joint_table.idle_own.Given as goal

abbrev pub invariant-loop-place : goal.invariant-loop-place
invariant-loop-place l = IsIdling l.body l.ends l.fn.joints.items l.joints.items l.place
