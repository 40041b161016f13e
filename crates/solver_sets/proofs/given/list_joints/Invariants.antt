use Rattle.std.proofs.Common.{◌≡◌, ◌++◌, drop}
use Rattle.solver_sets.proofs.GivenLaws.{bond_ties_from}
use Rattle.solver_sets.proofs.given.list_joints.Given as goal

abbrev pub invariant-loop-index : goal.invariant-loop-index
invariant-loop-index l = l.ties.items ++ bond_ties_from l.bodies l.index (drop l.index l.slot_entries) (drop l.index l.joints) ≡ bond_ties_from l.bodies 0 l.slot_entries l.joints
