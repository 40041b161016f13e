use Rattle.std.proofs.Common.{◌≡◌, take}
use Rattle.world_core_base.specs.JointEnds.{halves}
use Rattle.world_core_base.proofs.joint_ends.list_halves.Given as goal

abbrev pub invariant-loop-place : goal.invariant-loop-place
invariant-loop-place l = l.slots.items ≡ halves (take l.place l.ends)
