-- Inner forms of the code. What the parts of a change do to the numbers of contacts.
use Rattle.std.specs.Prelude.{◌≡◌, ◌↔◌, ◌⊎◌, ℕ, Bool, true, false, List, length, map, Option, Some, None, All, Contains}
use Rattle.std.specs.Option.{is_some}
use Rattle.contacts_base.specs.declared.contact.ContactEntry.{ContactEntry}
use Rattle.contacts_base.specs.declared.key.ContactKey.{ContactKey}
use Rattle.contacts_base.specs.Evaluate.{touches}
use Rattle.contacts.specs.declared.number_book.NumberBook.{NumberBook}
use Rattle.contacts.specs.declared.number_book.NumberedContact.{NumberedContact}
use Rattle.contacts_base.specs.ContactLists.{AreContacts}
use Rattle.contacts.specs.declared.changes.Changes.{Changes}
use Rattle.contacts_base.specs.Changes.{keys_touching_only_in}
use Rattle.contacts_base.specs.ChangedKeys.{AreRising, keys_not_in}
use Rattle.contacts.specs.Known.{IsPairKey}
use Rattle.contacts.specs.NumberBooks.{HasRoomFor, IsNoKey}
use Rattle.contacts.specs.Numbered.{contact_at, number_key_at, numbered_of}

-- ---- what is done to the numbers

-- the contacts with these keys touch, or don't; all else is as it was
pub record HaveTouched (named : List ContactKey) (touching : Bool) (old new : List (Option NumberedContact)) : Type 0 where
  pub keys : (number : ℕ) → number_key_at new number ≡ number_key_at old number
  pub done : (number : ℕ) (c : NumberedContact) → contact_at new number ≡ Some c → Contains named c.key → c.touching ≡ touching
  pub others : (number : ℕ) (c : NumberedContact) → contact_at old number ≡ Some c → (Contains named c.key → ⊥) → contact_at new number ≡ Some c
  pub long : length new ≡ length old

-- these contacts have numbers that were free; all others have those that they had
pub record HaveMade (contacts : List NumberedContact) (old new : List (Option NumberedContact)) (numbers : List ℕ) : Type 0 where
  pub kept : (number : ℕ) (c : NumberedContact) → contact_at old number ≡ Some c → contact_at new number ≡ Some c
  pub all : (c : NumberedContact) → Contains contacts c → Contains new (Some c)
  pub only : (number : ℕ) (c : NumberedContact) → contact_at old number ≡ None → contact_at new number ≡ Some c → Contains contacts c
  pub made : (number : ℕ) → Contains numbers number ↔ ((contact_at old number ≡ None) × (is_some (contact_at new number) ≡ true))

-- no contact with one of these keys has a number; all others have those that they had
pub record HaveGone (named : List ContactKey) (old new : List (Option NumberedContact)) (numbers : List ℕ) : Type 0 where
  pub over : (number : ℕ) (c : NumberedContact) → contact_at old number ≡ Some c → Contains named c.key → contact_at new number ≡ None
  pub others : (number : ℕ) (c : NumberedContact) → contact_at old number ≡ Some c → (Contains named c.key → ⊥) → contact_at new number ≡ Some c
  pub none : (number : ℕ) → contact_at old number ≡ None → contact_at new number ≡ None
  pub long : length new ≡ length old
  pub gone : (number : ℕ) → Contains numbers number ↔ ((is_some (contact_at old number) ≡ true) × (contact_at new number ≡ None))

-- ---- what can be made

-- these contacts can be made: there is room for them, no two have one key, and no contact has theirs
pub record CanMakeAll (contacts : List NumberedContact) (b : NumberBook) : Type 0 where
  pub room : HasRoomFor contacts b
  pub rising : AreRising (map (λ c. c.key) contacts)
  pub absent : (c : NumberedContact) → Contains contacts c → IsNoKey c.key b

-- ---- what the contacts become

-- one of the contacts has the key
pub record IsThere (contacts : List ContactEntry) (key : ContactKey) : Type 0 where
  pub entry : ContactEntry
  pub there : Contains contacts entry
  pub has : entry.key ≡ key

-- The contacts become others: which are made, and the keys of those that go, that begin to touch, and that end.
pub record IsChange (old new : List ContactEntry) (made : List NumberedContact) (gone begin end : List ContactKey) : Type 0 where
  pub added : (c : NumberedContact) → Contains made c → Contains (map numbered_of new) c
  pub fresh : (c : NumberedContact) (e : ContactEntry) → Contains made c → Contains old e → e.key ≡ c.key → ⊥
  pub removed : (f : ContactEntry) → Contains new f → Contains gone f.key → ⊥
  pub stay : (e : ContactEntry) → Contains old e → Contains gone e.key ⊎ IsThere new e.key
  pub all : (f : ContactEntry) → Contains new f → Contains made (numbered_of f) ⊎ IsThere old f.key
  pub begins : (e f : ContactEntry) → Contains old e → Contains new f → f.key ≡ e.key → touches f.contact ≡ true → touches e.contact ≡ false → Contains begin e.key
  pub begun : (e f : ContactEntry) → Contains old e → Contains new f → f.key ≡ e.key → Contains begin e.key → (touches f.contact ≡ true) × (touches e.contact ≡ false)
  pub ends : (e f : ContactEntry) → Contains old e → Contains new f → f.key ≡ e.key → touches f.contact ≡ false → touches e.contact ≡ true → Contains end e.key
  pub ended : (e f : ContactEntry) → Contains old e → Contains new f → f.key ≡ e.key → Contains end e.key → (touches f.contact ≡ false) × (touches e.contact ≡ true)

-- what a collide by all near pairs found is what the contacts become by it
pub record IsNoted (old : List ContactEntry) (c : Changes) : Type 0 where
  pub now : AreContacts c.now
  pub made : c.made.items ≡ keys_not_in old c.now
  pub gone : c.gone.items ≡ keys_not_in c.now old
  pub begin : c.begin.items ≡ keys_touching_only_in old c.now
  pub end : c.end.items ≡ keys_touching_only_in c.now old
  pub rising : AreRising c.made.items
  pub keys : All (λ e. IsPairKey e.key) old
  pub new_keys : All (λ e. IsPairKey e.key) c.now
