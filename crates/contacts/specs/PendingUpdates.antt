-- What a collide makes of the contacts, not yet carried out.
use Rattle.std.specs.Prelude.{◌≡◌, false, List, [], map, Option, None, Some, option_map}
use Rattle.std.specs.Option.{ForSome}
use Rattle.contacts_base.specs.declared.contact.ContactEntry.{ContactEntry}
use Rattle.contacts_base.specs.ContactLists.{AreContacts}
use Rattle.contacts_base.specs.ShortLists.{counted_in}
use Rattle.contacts_base.specs.Split.{Split, carried, contacts_in}
use Rattle.contacts.specs.declared.pending_update.PendingUpdate.{PendingUpdate}
use Rattle.contacts_base.specs.ChangedKeys.{AreRising}
use Rattle.contacts.specs.NumberChanges.{IsChange}

-- what the two lists become by what was noted of them
abbrev pub after : PendingUpdate → Split → Split
after d s = carried d.notes.items d.ends.items (option_map counted_in d.short) s

abbrev pub whole_or : Option Split → Split → Split
whole_or None s = s
whole_or (Some whole) s = whole

-- what the contacts become
abbrev pub pending_contacts : PendingUpdate → Split → List ContactEntry
pending_contacts d s = contacts_in (whole_or d.whole (after d s))

-- nothing is pending
pub record IsNothing (d : PendingUpdate) : Type 0 where
  pub notes : d.notes.items ≡ []
  pub ends : d.ends.items ≡ []
  pub short : d.short ≡ None
  pub whole : d.whole ≡ None
  pub made : d.made.items ≡ []
  pub gone : d.gone.items ≡ []
  pub begin : d.begin.items ≡ []
  pub end : d.end.items ≡ []

-- what is pending can be carried out
pub record IsPendingUpdate (d : PendingUpdate) (s : Split) : Type 0 where
  pub short : ForSome d.short (λ l. AreContacts (counted_in l))
  pub contacts : AreContacts (contacts_in (after d s))
  pub idle : d.any ≡ false → IsNothing d
  pub change : IsChange (contacts_in s) (pending_contacts d s) d.made.items d.gone.items d.begin.items d.end.items
  pub rising : AreRising (map (λ c. c.key) d.made.items)

-- all is as it was but which contacts begin to touch and which end
pub record KeepLists (old new : PendingUpdate) : Type 0 where
  pub notes : new.notes.items ≡ old.notes.items
  pub ends : new.ends.items ≡ old.ends.items
  pub short : new.short ≡ old.short
  pub whole : new.whole ≡ old.whole
  pub made : new.made.items ≡ old.made.items
  pub gone : new.gone.items ≡ old.gone.items
  pub any : new.any ≡ old.any
