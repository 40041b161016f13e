use Rattle.std.proofs.Common.{◌≡◌, ◌++◌, drop}
use Rattle.world_queries.specs.OwnContacts.{contacts_at}
use Rattle.world_queries.proofs.own_contacts.contacts_among.Given as goal

abbrev pub invariant-loop-entry : goal.invariant-loop-entry
invariant-loop-entry l = l.found.items ++ contacts_at l.slot (drop l.entry-index l.contacts) ≡ contacts_at l.slot l.contacts
