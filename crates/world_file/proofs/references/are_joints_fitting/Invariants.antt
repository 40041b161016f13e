use Rattle.std.proofs.Common.{◌≡◌, drop}
use Rattle.std.specs.List.{list_all}
use Rattle.world_file.specs.Fitting.{is_joint_fitting}
use Rattle.world_file.proofs.references.are_joints_fitting.Given as goal

abbrev pub invariant-loop-entry : goal.invariant-loop-entry
invariant-loop-entry l = list_all (is_joint_fitting l.slot_entries) (drop l.entry-index l.joints) ≡ list_all (is_joint_fitting l.slot_entries) l.joints
