-- Trusted: Which contacts a body has.
use Rattle.std.specs.Prelude.{ℕ, List, filter}
use Rattle.contacts_base.specs.Contacts.{has_slot}
use Rattle.contacts_base.specs.declared.contact.ContactEntry.{ContactEntry}

-- those of the body in a slot, in the order of the list
abbrev pub contacts_at : ℕ → List ContactEntry → List ContactEntry
contacts_at slot contacts = filter (has_slot slot) contacts
