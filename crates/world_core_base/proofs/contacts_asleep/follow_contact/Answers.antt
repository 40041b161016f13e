use Rattle.world_core_base.proofs.contacts_asleep.follow_contact.Goals as goal

pub follow-requires-clause-below : goal.follow-requires-clause-below
follow-requires-clause-below c name e = c.requires.below name (rw c.contact_sleep.ensures at e)

pub follow-requires-clause-named : goal.follow-requires-clause-named
follow-requires-clause-named c name e = c.requires.named name (rw c.contact_sleep.ensures at e)
