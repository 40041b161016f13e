use Rattle.std.proofs.Common.{◌≡◌, ◌++◌, drop}
use Rattle.std.specs.List.{flat_map}
use Rattle.world_file.specs.Fitting.{joint_ties, tie_if_any}
use Rattle.world_file.proofs.ties.push_joint_ties.Given as goal

abbrev pub invariant-loop-slot : goal.invariant-loop-slot
invariant-loop-slot l =
    l.ties.items ++ flat_map tie_if_any (joint_ties l.bodies l.slot (drop l.slot l.slot_entries) (drop l.slot l.joints)) ≡ l.fn.ties.items ++ flat_map tie_if_any (joint_ties l.bodies 0 l.slot_entries l.joints)
