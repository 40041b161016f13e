use Rattle.std.proofs.Common.{◌≡◌, ◌++◌, drop, map}
use Rattle.world_file.specs.Fitting.{joint_kept}
use Rattle.world_file.proofs.references.list_joints.Given as goal

abbrev pub invariant-loop-entry : goal.invariant-loop-entry
invariant-loop-entry l = l.joints.items ++ map joint_kept (drop l.entry-index l.saved) ≡ map joint_kept l.saved
