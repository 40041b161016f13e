use Rattle.std.proofs.Common.{◌≡◌, drop}
use Rattle.solver_sets.specs.Census.{AreNamed, contact_standings}
use Rattle.solver_sets.specs.CensusListing.{with_all}
use Rattle.solver_sets.proofs.census.list_contacts.Given as goal

abbrev pub invariant-loop-entry : goal.invariant-loop-entry
invariant-loop-entry l = record {
  listed : with_all l.census (contact_standings l.bodies (drop l.entry-index l.contacts)) ≡ with_all l.fn.census (contact_standings l.bodies l.contacts);
  named : AreNamed l.census.sleeping;
}
