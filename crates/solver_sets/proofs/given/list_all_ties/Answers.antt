use Rattle.std.proofs.Common.{◌∙◌, ◌++◌}
use Rattle.std.specs.List.{filter_map}
use Rattle.solver_sets.specs.Given.{contact_tie_in}
use Rattle.solver_sets.specs.Ties.{joint_bonds, slots_of, ties_in}
use Rattle.solver_sets.proofs.GivenLaws.{all_ties}
use Rattle.solver_sets.proofs.ListingLaws.{listed_all}
use Rattle.solver_sets.proofs.given.list_all_ties.Goals as goal

pub returns-clause-ties : goal.returns-clause-ties
returns-clause-ties c =
    let bodies = c.args.bodies.now in
    let s = slots_of c.args.slot_entries.now c.args.joints.now in
    let contacts = c.args.contacts.now in
    listed_all (contact_tie_in bodies) c.loop-entry.ties.items (ties_in bodies (joint_bonds s) ++ filter_map (contact_tie_in bodies) contacts) contacts c.loop-entry.entry-index c.loop-entry-test.false c.loop-entry.invariant
    ∙ all_ties bodies s contacts
