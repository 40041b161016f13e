use Rattle.std.proofs.Common.{◌≡◌, map, take}
use Rattle.plain_world.specs.Joints.{joint_at}
use Rattle.world_core.proofs.own_joints.joints_in.Given as goal

abbrev pub invariant-loop-place : goal.invariant-loop-place
invariant-loop-place l = l.found.items ≡ map (joint_at l.joints) (take l.place l.slots)
