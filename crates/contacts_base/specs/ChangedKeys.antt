-- Inner: keys of contacts that come and go, in lists that ascend.
use Rattle.std.specs.Prelude.{cond, List, map, Option, Some, None, is_some}
use Rattle.std.specs.List.{filter_map}
use Rattle.std.specs.List.Sorted.{IsStrictlyIncreasing}
use Rattle.contacts_base.specs.declared.key.ContactKey.{ContactKey}
use Rattle.contacts_base.specs.declared.contact.ContactEntry.{ContactEntry}
use Rattle.contacts_base.specs.Keys.{key_number}
use Rattle.contacts_base.specs.Contacts.{lookup}

-- the entry's key, unless there is another contact with it
unfoldable pub key_unless : Option ContactEntry → ContactEntry → Option ContactKey
key_unless other e = cond (is_some other) None (Some e.key)

-- the same two of an entry and the others' contact with its key
unfoldable pub key_unless_in : List ContactEntry → ContactEntry → Option ContactKey
key_unless_in others e = key_unless (lookup others e.key) e

-- the keys of entries that the others lack
abbrev pub keys_not_in : List ContactEntry → List ContactEntry → List ContactKey
keys_not_in others entries = filter_map (key_unless_in others) entries

-- the keys ascend, and none stands twice
abbrev pub AreRising : List ContactKey → Type 0
AreRising keys = IsStrictlyIncreasing (map key_number keys)
