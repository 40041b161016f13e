use Rattle.std.proofs.Common.{◌≡◌, ◌++◌, drop}
use Rattle.std.specs.List.{filter_map}
use Rattle.solver_sets.specs.Given.{contact_tie_in}
use Rattle.solver_sets.specs.Ties.{joint_bonds, slots_of, ties_in}
use Rattle.solver_sets.proofs.given.list_all_ties.Given as goal

abbrev pub invariant-loop-entry : goal.invariant-loop-entry
invariant-loop-entry l = l.ties.items ++ filter_map (contact_tie_in l.bodies) (drop l.entry-index l.contacts) ≡ ties_in l.bodies (joint_bonds (slots_of l.slot_entries l.joints)) ++ filter_map (contact_tie_in l.bodies) l.contacts
