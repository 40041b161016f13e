-- The contacts that have come since the long list was made.
use Rattle.std.specs.Prelude.{◌≡◌, ℕ, Bool, List, drop, length}
use Rattle.contacts_base.specs.declared.contact.ContactEntry.{ContactEntry}
use Rattle.contacts_base.specs.ContactLists.{AreContacts}
use Rattle.contacts_base.specs.Split.{counting}

-- what contracts see of them: the contacts, ascending by key, and by place which of them are over
pub record Short : Type 0 where
  pub entries : List ContactEntry
  pub over : List Bool

-- those that count
abbrev pub counted_in : Short → List ContactEntry
counted_in s = counting s.over s.entries

-- those from a place on that count
abbrev pub counted_from : ℕ → Short → List ContactEntry
counted_from place s = counting (drop place s.over) (drop place s.entries)

-- they ascend, and each place has a flag
pub record IsShort (s : Short) : Type 0 where
  pub contacts : AreContacts s.entries
  pub flags : length s.over ≡ length s.entries
