use Rattle.std.proofs.Common.{take}
use Rattle.world_core_base.specs.JointEnds.{AreEnds}
use Rattle.world_core_base.proofs.joint_table.from_joints.list_ends.Given as goal

abbrev pub invariant-loop-slot : goal.invariant-loop-slot
invariant-loop-slot l = AreEnds (take l.slot l.joints) l.sets.sets
