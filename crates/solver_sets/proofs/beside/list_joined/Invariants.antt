use Rattle.std.proofs.Common.{◌≡◌, ◌++◌, drop}
use Rattle.std.specs.List.{filter_map}
use Rattle.solver_sets.specs.Beside.{joined_by}
use Rattle.solver_sets.proofs.beside.list_joined.Given as goal

abbrev pub invariant-loop-joint : goal.invariant-loop-joint
invariant-loop-joint l = l.slots.items ++ filter_map (joined_by l.bodies l.slot) (drop l.joint-index l.joints) ≡ filter_map (joined_by l.bodies l.slot) l.joints
