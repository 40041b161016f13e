-- Contacts by their numbers, and how a change of the contacts changes them.
use Rattle.std.specs.Prelude.{◌≡◌, ◌↔◌, ℕ, true, List, map, Option, Some, None, option_map, Contains}
use Rattle.std.specs.List.{slice_index_or}
use Rattle.std.specs.Option.{is_some}
use Rattle.contacts_base.specs.declared.contact.ContactEntry.{ContactEntry}
use Rattle.contacts_base.specs.declared.key.ContactKey.{ContactKey}
use Rattle.contacts_base.specs.Evaluate.{touches}
use Rattle.contacts.specs.declared.ends.Side.{Side}
use Rattle.contacts.specs.declared.number_book.NumberedContact.{NumberedContact}
use Rattle.contacts.specs.Ends.{slot_on}

-- the contact with a number, if there is one
abbrev pub contact_at : List (Option NumberedContact) → ℕ → Option NumberedContact
contact_at numbered number = slice_index_or numbered number None

abbrev pub key_of : Option NumberedContact → Option ContactKey
key_of o = option_map (λ (c : NumberedContact). c.key) o

-- its key
abbrev pub number_key_at : List (Option NumberedContact) → ℕ → Option ContactKey
number_key_at numbered number = key_of (contact_at numbered number)

-- the slot of the body that it has on one side
abbrev pub slot_at : Side → List (Option NumberedContact) → ℕ → Option ℕ
slot_at side numbered number = option_map (slot_on side) (number_key_at numbered number)

-- what the number of a contact tells of it
abbrev pub numbered_of : ContactEntry → NumberedContact
numbered_of e = record { key = e.key; touching = touches e.contact }

-- no two contacts with numbers have one key
abbrev pub AreKeysOnce : List (Option NumberedContact) → Type 0
AreKeysOnce numbered = (a b : ℕ) (key : ContactKey) → number_key_at numbered a ≡ Some key → number_key_at numbered b ≡ Some key → a ≡ b

-- the contacts are those that have numbers, each once
pub record AreNumbered (contacts : List ContactEntry) (numbered : List (Option NumberedContact)) : Type 0 where
  pub all : (e : ContactEntry) → Contains contacts e → Contains numbered (Some (numbered_of e))
  pub only : (number : ℕ) (c : NumberedContact) → contact_at numbered number ≡ Some c → Contains (map numbered_of contacts) c
  pub once : AreKeysOnce numbered

-- Once a change is carried out: what it made has numbers that no contact had, what it ended leaves its numbers, and
-- each other number has the contact with the key that it had. Who is there before and after it has the number that it
-- had.
pub record IsTurnover (old new : List (Option NumberedContact)) (added removed : List ℕ) : Type 0 where
  pub stay : (number : ℕ) → (Contains added number → ⊥) → (Contains removed number → ⊥) → number_key_at new number ≡ number_key_at old number
  pub fresh : (number : ℕ) → Contains added number → contact_at old number ≡ None
  pub made : (number : ℕ) → Contains added number → is_some (contact_at new number) ≡ true
  pub there : (number : ℕ) → Contains removed number → is_some (contact_at old number) ≡ true
  pub gone : (number : ℕ) → Contains removed number → contact_at new number ≡ None
  pub same : (a b : ℕ) (key : ContactKey) → number_key_at old a ≡ Some key → number_key_at new b ≡ Some key → a ≡ b

-- these are the numbers of the contacts that have the body in a slot on one side
abbrev pub AreEndsAt : Side → List (Option NumberedContact) → ℕ → List ℕ → Type 0
AreEndsAt side numbered slot numbers = (number : ℕ) → Contains numbers number ↔ (slot_at side numbered number ≡ Some slot)
