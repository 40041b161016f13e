use Rattle.std.proofs.Common.{◌≡◌, drop, length}
use Rattle.plain_world.specs.Joints.{joint_at}
use Rattle.world_core_base.specs.Asleep.{IsOfNone, joint_sleep}
use Rattle.world_core_base.specs.Following.{HaveFollowed}
use Rattle.world_core_base.proofs.joints_asleep.follow_joints.Given as goal

abbrev pub invariant-loop-place : goal.invariant-loop-place
invariant-loop-place l = HaveFollowed (joint_sleep l.bodies l.joints) (λ slot. IsOfNone (drop l.place l.slots) (joint_at l.joints slot)) l.fn.sets.names l.sets.names × (length l.sets.sets ≡ length l.fn.sets.sets)
