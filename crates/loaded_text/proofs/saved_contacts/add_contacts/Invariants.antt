use Rattle.loaded_text.proofs.ContactLaws.{ContactsSoFar}
use Rattle.loaded_text.proofs.saved_contacts.add_contacts.Given as goal

abbrev pub invariant-loop-count : goal.invariant-loop-count
invariant-loop-count l = ContactsSoFar l.count l.fn.contacts.items l.contacts.items l.initial.text.rest.now l.text.rest.now
