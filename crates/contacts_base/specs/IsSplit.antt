-- What is kept of a long list of contacts and a short one.
use Rattle.std.specs.Prelude.{◌≡◌, length}
use Rattle.contacts_base.specs.ContactLists.{AreContacts}
use Rattle.contacts_base.specs.Split.{Split, contacts_in}

-- both lists ascend, and so do the contacts: no key counts twice. Each place of the long list has a flag
pub record IsSplit (s : Split) : Type 0 where
  pub long_rises : AreContacts s.long
  pub short_rises : AreContacts s.short
  pub all : AreContacts (contacts_in s)
  pub flags : length s.over ≡ length s.long
