use Rattle.std.specs.Prelude.{◌≡◌, drop, length}
use Rattle.plain_world.specs.Slots.{AreMatched}
use Rattle.solver_sets.specs.Ties.{slots_of}
use Rattle.world_core.proofs.OwnJointLaws.{unjoined_in}
use Rattle.world_core.proofs.joining.drop_joints.Given as goal

abbrev pub invariant-loop-place : goal.invariant-loop-place
invariant-loop-place l = record {
  gone : unjoined_in l.body (drop l.place l.slots) (slots_of l.handles.slot_entries l.joints.joints) ≡ unjoined_in l.body l.slots (slots_of l.fn.handles.slot_entries l.fn.joints.joints);
  matched : AreMatched l.handles.slot_entries l.joints.joints;
  long : length l.joints.joints ≡ length l.fn.joints.joints;
}
