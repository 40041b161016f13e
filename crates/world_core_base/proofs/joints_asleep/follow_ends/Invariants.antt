use Rattle.std.proofs.Common.{◌≡◌, length}
use Rattle.world_core_base.specs.Asleep.{joint_sleep}
use Rattle.world_core_base.specs.Following.{HaveFollowed}
use Rattle.world_core_base.proofs.FollowLaws.{IsHalf}
use Rattle.world_core_base.proofs.joints_asleep.follow_ends.Given as goal

abbrev pub invariant-loop-place : goal.invariant-loop-place
invariant-loop-place l = HaveFollowed (joint_sleep l.bodies l.joints) (IsHalf l.ends l.place) l.fn.sets.names l.sets.names × (length l.sets.sets ≡ length l.fn.sets.sets)
