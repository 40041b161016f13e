use Rattle.std.proofs.Common.{◌≤◌, length}
use Rattle.world_core_base.specs.Asleep.{joint_sleep}
use Rattle.world_core_base.proofs.FollowLaws.{IsListing}
use Rattle.world_core_base.proofs.joints_asleep.list_joints_asleep.Given as goal

abbrev pub invariant-loop-slot : goal.invariant-loop-slot
invariant-loop-slot l = IsListing (joint_sleep l.bodies l.joints) l.slot l.sets.names × ((length l.joints ≤ length l.sets.names) × (length l.bodies ≤ length l.sets.sets))
