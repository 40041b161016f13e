use Rattle.std.proofs.Common.{◌≤◌, vec_capacity}
use Rattle.packed_sets.specs.Packs.{list_at}
use Rattle.packed_sets.proofs.WalkLaws.{count_left}
use Rattle.solver_sets.specs.Ties.{slots_of}
use Rattle.world_core.specs.WorldTies.{joint_tie_in}
use Rattle.world_core.proofs.PushLaws.{IsPushing}
use Rattle.world_core.proofs.world_ties.push_joints_asleep.Given as goal

abbrev pub invariant-loop-next : goal.invariant-loop-next
invariant-loop-next l = record {
  pushing : IsPushing (joint_tie_in l.bodies (slots_of l.joint_entries l.joints)) (list_at l.sets.sets l.name) l.next l.fn.list.items l.list.items (vec_capacity l.fn.list);
  capacity : vec_capacity l.fn.list ≤ vec_capacity l.list;
}

abbrev pub decreases-loop-next : goal.decreases-loop-next
decreases-loop-next l = count_left (list_at l.sets.sets l.name) l.next
