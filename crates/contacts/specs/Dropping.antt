-- Inner forms of the code. How the contacts of a body go, one after another.
use Rattle.std.specs.Prelude.{◌≡◌, ◌↔◌, [], ℕ, true, List, Option, Some, None, Contains}
use Rattle.std.specs.Option.{is_some}
use Rattle.contacts_base.specs.declared.key.ContactKey.{ContactKey}
use Rattle.contacts_base.specs.Contacts.{AreKeysRising, contacts_but, contacts_without}
use Rattle.contacts_base.specs.Split.{Split, contacts_in}
use Rattle.contacts.specs.declared.ends.Side.{Side}
use Rattle.contacts.specs.declared.number_book.NumberBook.{NumberBook}
use Rattle.contacts.specs.declared.number_book.NumberedContact.{NumberedContact}
use Rattle.contacts.specs.Ends.{slot_on}
use Rattle.contacts.specs.NumberBooks.{gone_of}
use Rattle.contacts.specs.Numbered.{AreNumbered, contact_at}
use Rattle.contacts.specs.Stirring.{HaveKeys}

-- the contact that has the key is over, if there is one, and all others are as they were
pub record IsKeyOver (key : ContactKey) (old new : Split) : Type 0 where
  pub contacts : contacts_in new ≡ contacts_but key (contacts_in old)
  pub keys : HaveKeys old new

-- the body in the slot is one of the contact's
abbrev pub IsOf : ℕ → ContactKey → Type 0
IsOf slot key = (side : Side) × (slot_on side key ≡ slot)

-- While the contacts of a body go, from what the contacts and their numbers were. All contacts that are left have their
-- numbers, the numbers that are left tell what they did, and only the body's contacts are over.
pub record IsDropping (slot : ℕ) (was : Split) (numbered : List (Option NumberedContact)) (now : Split) (b : NumberBook) : Type 0 where
  pub keys : HaveKeys was now
  pub rising : AreKeysRising (contacts_in now)
  pub left : contacts_without slot (contacts_in now) ≡ contacts_without slot (contacts_in was)
  pub are : AreNumbered (contacts_in now) b.contacts.items
  pub kept : (number : ℕ) (c : NumberedContact) → contact_at b.contacts.items number ≡ Some c → contact_at numbered number ≡ Some c
  pub gone : (number : ℕ) → Contains (gone_of b) number ↔ ((is_some (contact_at numbered number) ≡ true) × (contact_at b.contacts.items number ≡ None))
  pub made : b.made.items ≡ []
