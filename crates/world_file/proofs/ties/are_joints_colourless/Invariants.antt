use Rattle.std.proofs.Common.{◌≡◌, drop}
use Rattle.world_file.specs.Fitting.{are_joints_colourless}
use Rattle.world_file.proofs.ties.are_joints_colourless.Given as goal

abbrev pub invariant-loop-slot : goal.invariant-loop-slot
invariant-loop-slot l = are_joints_colourless l.bodies l.slot (drop l.slot l.slot_entries) (drop l.slot l.joints) ≡ are_joints_colourless l.bodies 0 l.slot_entries l.joints
