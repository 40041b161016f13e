-- Inner forms of the code. At which places of a list the contacts of bodies are.
use Rattle.std.specs.Prelude.{◌≡◌, ◌⊎◌, ◌↔◌, ℕ, List, Option, None, Some, slice_get, Contains}
use Rattle.contacts_base.specs.declared.contact.ContactEntry.{ContactEntry}
use Rattle.contacts_base.specs.ContactLists.{keys_of}
use Rattle.contacts.specs.declared.ends.Side.{Side}
use Rattle.contacts.specs.declared.number_book.NumberedContact.{NumberedContact}
use Rattle.contacts.specs.Numbered.{contact_at, slot_at}

-- the contact at the place has the key of this one
abbrev pub IsPlaceOf : List ContactEntry → Option NumberedContact → ℕ → Type 0
IsPlaceOf es None place = ⊥
IsPlaceOf es (Some c) place = slice_get (keys_of es) place ≡ Some c.key

-- it is one with a number, and has the body in a slot on one side
pub record IsPlaceOn (es : List ContactEntry) (numbered : List (Option NumberedContact)) (side : Side) (slot place : ℕ) : Type 0 where
  pub number : ℕ
  pub on : slot_at side numbered number ≡ Some slot
  pub at : IsPlaceOf es (contact_at numbered number) place

-- and the body is in one of these slots
pub record IsPlaceOfOne (es : List ContactEntry) (numbered : List (Option NumberedContact)) (slots : List ℕ) (place : ℕ) : Type 0 where
  pub side : Side
  pub slot : ℕ
  pub listed : Contains slots slot
  pub is : IsPlaceOn es numbered side slot place

-- what is listed then was listed, or is one of these
abbrev pub ArePushed : (ℕ → Type 0) → List ℕ → List ℕ → Type 0
ArePushed P old new = (place : ℕ) → Contains new place ↔ (Contains old place ⊎ P place)
