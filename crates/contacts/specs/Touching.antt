-- What begins or ends to touch, from one list of contacts to another.
use Rattle.std.specs.Prelude.{◌≡◌, true, false, List, Contains}
use Rattle.contacts_base.specs.declared.contact.ContactEntry.{ContactEntry}
use Rattle.contacts_base.specs.declared.key.ContactKey.{ContactKey}
use Rattle.contacts_base.specs.Evaluate.{touches}

-- a contact with the key touches among these, and none among the others does
pub record TouchesOnlyIn (others contacts : List ContactEntry) (key : ContactKey) : Type 0 where
  pub entry : ContactEntry
  pub there : Contains contacts entry
  pub has : entry.key ≡ key
  pub touching : touches entry.contact ≡ true
  pub off : (e : ContactEntry) → Contains others e → e.key ≡ key → touches e.contact ≡ false
