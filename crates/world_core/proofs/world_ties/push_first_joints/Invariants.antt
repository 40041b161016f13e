use Rattle.std.proofs.Common.{◌≤◌, drop, vec_capacity}
use Rattle.std.specs.Prelude.{◌/◌}
use Rattle.std.specs.List.{filter_map}
use Rattle.solver_sets.specs.Ties.{slots_of}
use Rattle.world_core.specs.WorldTies.{if_first, joint_tie_in}
use Rattle.world_core.proofs.PushLaws.{IsAdding}
use Rattle.world_core.proofs.world_ties.push_first_joints.Given as goal

abbrev pub invariant-loop-place : goal.invariant-loop-place
invariant-loop-place l = record {
  adding : IsAdding (λ id. if_first l.slot (joint_tie_in l.bodies (slots_of l.joint_entries l.joints.joints) (id / 2))) (drop l.place l.ends) l.fn.list.items (filter_map (λ id. if_first l.slot (joint_tie_in l.bodies (slots_of l.joint_entries l.joints.joints) (id / 2))) l.ends) l.list.items (vec_capacity l.fn.list);
  capacity : vec_capacity l.fn.list ≤ vec_capacity l.list;
}
