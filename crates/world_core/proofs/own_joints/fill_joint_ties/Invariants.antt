use Rattle.std.proofs.Common.{◌≡◌, ◌≤◌, ◌++◌, drop, length, vec_capacity}
use Rattle.std.specs.List.{filter_map}
use Rattle.world_core.proofs.OwnJointLaws.{own_tie}
use Rattle.world_core.proofs.own_joints.fill_joint_ties.Given as goal

abbrev pub invariant-loop-place : goal.invariant-loop-place
invariant-loop-place l = record {
  ties : l.ties.items ++ filter_map (own_tie l.bodies l.body l.slot_entries l.joints) (drop l.place l.slots) ≡ filter_map (own_tie l.bodies l.body l.slot_entries l.joints) l.slots;
  len : length l.ties.items ≤ l.place;
  capacity : vec_capacity l.fn.ties ≤ vec_capacity l.ties;
}
