-- Trusted: Lists of contacts by key.
use Rattle.std.specs.Prelude.{ℕ, ◌==◌, ◌||◌, Bool, false, not, cond, List, [], ◌∷◌, map, filter, Option, Some, None}
use Rattle.std.specs.List.Sorted.{IsStrictlyIncreasing}
use Rattle.std.specs.Option.{option_map_or}
use Rattle.contacts_base.specs.declared.key.ContactKey.{ContactKey}
use Rattle.contacts_base.specs.declared.contact.ContactEntry.{ContactEntry}
use Rattle.contacts_base.specs.Keys.{key_number}
use Rattle.contacts_base.specs.Evaluate.{touches}

abbrev pub number_of : ContactEntry → ℕ
number_of e = key_number e.key

-- the keys ascend, and none stands twice
abbrev pub AreKeysRising : List ContactEntry → Type 0
AreKeysRising entries = IsStrictlyIncreasing (map number_of entries)

-- the contact with the key
abbrev pub lookup : List ContactEntry → ContactKey → Option ContactEntry
lookup [] key = None
lookup (e ∷ es) key = cond (number_of e == key_number key) (Some e) (lookup es key)

abbrev pub is_touching : Option ContactEntry → Bool
is_touching entry = option_map_or (λ (e : ContactEntry). touches e.contact) entry false

-- ---- what becomes of the list

-- the contact is one of the body in the slot
abbrev pub has_slot : ℕ → ContactEntry → Bool
has_slot slot e = (e.key.first.slot == slot) || (e.key.second.slot == slot)

abbrev pub contacts_without : ℕ → List ContactEntry → List ContactEntry
contacts_without slot entries = filter (λ e. not (has_slot slot e)) entries

-- those but the one with the key
abbrev pub contacts_but : ContactKey → List ContactEntry → List ContactEntry
contacts_but key entries = filter (λ e. not (number_of e == key_number key)) entries
