-- Inner forms of the code. The numbers that are given to contacts and those that are free.
use Rattle.std.specs.Prelude.{◌≡◌, ◌≢◌, ◌<◌, ◌≤◌, ◌+◌, ◌-◌, ◌∷◌, ◌++◌, [], ℕ, List, drop, length, slice_get, slice_set, vec_capacity, Option, Some, None, All, Contains}
use Rattle.contacts_base.specs.declared.key.ContactKey.{ContactKey}
use Rattle.contacts.specs.declared.ends.Side.{Side}
use Rattle.contacts.specs.declared.number_book.NumberBook.{NumberBook}
use Rattle.contacts.specs.declared.number_book.NumberedContact.{NumberedContact}
use Rattle.contacts.specs.declared.number_book.TheConstants.{MAX_CONTACTS}
use Rattle.contacts.specs.Ends.{KeepEnds, ends_on, slot_on}
use Rattle.contacts.specs.Numbered.{AreEndsAt, AreKeysOnce, contact_at, number_key_at}
use Rattle.packed_sets.specs.Packs.{list_at}
use Rattle.packed_sets.specs.Once.{AreOnce}

-- the numbers that no contact has are listed, each once
pub record AreFree (contacts : List (Option NumberedContact)) (free : List ℕ) : Type 0 where
  pub few : length contacts ≤ MAX_CONTACTS
  pub once : AreOnce free
  pub are : (number : ℕ) → Contains free number → slice_get contacts number ≡ Some None
  pub all : (number : ℕ) → slice_get contacts number ≡ Some None → Contains free number

-- numbers are free just if they are listed so, for which there is room; the threads of each body have the numbers of
-- its contacts; and no two contacts have one key
pub record IsBook (b : NumberBook) : Type 0 where
  pub free : AreFree b.contacts.items b.free.items
  pub room : length b.contacts.items ≤ vec_capacity b.free
  pub ends : (side : Side) (slot : ℕ) → AreEndsAt side b.contacts.items slot (list_at (ends_on side b.ends).sets slot)
  pub once : AreKeysOnce b.contacts.items
  pub ended : b.ended ≤ length b.free.items

-- the numbers of the contacts that the last change ended
abbrev pub gone_of : NumberBook → List ℕ
gone_of b = drop b.ended b.free.items

-- below which number all contacts have theirs once so many more are made
abbrev pub bound_of : NumberBook → ℕ → ℕ
bound_of b added = length b.contacts.items + (added - length b.free.items)

-- ---- room

-- there is room for so many contacts more, of bodies in slots below a number
pub record HasRoom (added slots : ℕ) (b : NumberBook) : Type 0 where
  pub bound : ℕ
  pub few : bound ≤ MAX_CONTACTS
  pub within : length b.contacts.items ≤ bound
  pub left : added + length b.contacts.items ≤ bound + length b.free.items
  pub contacts : bound ≤ vec_capacity b.contacts
  pub free : bound ≤ vec_capacity b.free
  pub noted : (side : Side) → bound ≤ (ends_on side b.ends).ids
  pub there : (side : Side) → slots ≤ length (ends_on side b.ends).sets
  pub made : added + length b.made.items ≤ vec_capacity b.made

-- the bodies of all of these contacts are in slots below a number
abbrev pub AreSlotsBelow : ℕ → List NumberedContact → Type 0
AreSlotsBelow slots contacts = (side : Side) → All (λ c. slot_on side c.key < slots) contacts

-- there is room for these contacts
pub record HasRoomFor (contacts : List NumberedContact) (b : NumberBook) : Type 0 where
  pub slots : ℕ
  pub below : AreSlotsBelow slots contacts
  pub room : HasRoom (length contacts) slots b

-- no number changes
pub record KeepBook (old new : NumberBook) : Type 0 where
  pub contacts : new.contacts.items ≡ old.contacts.items
  pub free : new.free.items ≡ old.free.items
  pub ends : KeepEnds old.ends new.ends

-- ---- a contact is made, and one goes

-- no contact has the key
abbrev pub IsNoKey : ContactKey → NumberBook → Type 0
IsNoKey key b = (number : ℕ) → number_key_at b.contacts.items number ≢ Some key

-- a contact can be made
pub record CanMake (contact : NumberedContact) (b : NumberBook) : Type 0 where
  pub room : HasRoomFor (contact ∷ []) b
  pub absent : IsNoKey contact.key b

-- it has a number that was free
pub record HasMade (contact : NumberedContact) (number : ℕ) (old new : NumberBook) : Type 0 where
  pub was : contact_at old.contacts.items number ≡ None
  pub now : contact_at new.contacts.items number ≡ Some contact
  pub others : (other : ℕ) → other ≢ number → contact_at new.contacts.items other ≡ contact_at old.contacts.items other
  pub made : new.made.items ≡ old.made.items ++ number ∷ []
  pub gone : gone_of new ≡ []
  pub room : (added slots : ℕ) → HasRoom (added + 1) slots old → HasRoom added slots new
  pub bound : (added : ℕ) → bound_of new added ≤ bound_of old (added + 1)

-- its number is free
pub record HasEnded (number : ℕ) (old new : NumberBook) : Type 0 where
  pub contacts : new.contacts.items ≡ slice_set old.contacts.items number None
  pub gone : gone_of new ≡ gone_of old ++ number ∷ []
  pub made : new.made.items ≡ old.made.items
