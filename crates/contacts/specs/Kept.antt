-- The contacts of near shapes with what is kept beside them, and what they become when the last collide is carried out.
use Rattle.std.specs.Prelude.{◌≡◌, ℕ, Bool, true, List, Option}
use Rattle.contacts_base.specs.declared.contact.ContactEntry.{ContactEntry}
use Rattle.contacts_base.specs.declared.near.Proxy.{Proxy}
use Rattle.contacts_base.specs.Proxies.{IsProxyList}
use Rattle.contacts_base.specs.Split.{Split, contacts_in}
use Rattle.contacts_base.specs.declared.body_pair.BodyPair.{BodyPair}
use Rattle.contacts.specs.declared.pending_update.Touches.{Touches}
use Rattle.contacts_base.specs.ChangedKeys.{AreRising}
use Rattle.contacts.specs.declared.ends.Side.{Side}
use Rattle.contacts.specs.declared.ends.Side.TheVariants.{First, Second}
use Rattle.contacts.specs.declared.collide_memory.CollideState.{CollideState}
use Rattle.contacts.specs.declared.number_book.NumberBook.{NumberBook}
use Rattle.contacts.specs.declared.number_book.NumberedContact.{NumberedContact}
use Rattle.contacts.specs.Numbered.{AreNumbered}
use Rattle.contacts.specs.NumberBooks.{HasRoomFor, IsBook}
use Rattle.contacts.specs.PendingUpdates.{IsNothing, IsPendingUpdate}
use Rattle.contacts.specs.Known.{IsKnown}
use Rattle.contacts.specs.Stirring.{AreHeld}
use Rattle.contacts.specs.Fates.{AreWithin, IsMade, moved_by}
use Rattle.contacts.specs.declared.contact_table.ContactTable.TheInside.{Inside}

-- the contacts, and what they become when the last collide is carried out; by its number each contact, and by the slot
-- of its first body and of its second one which numbers there are; which numbers the last change gave and took away;
-- and below which number all contacts have theirs once what is pending is carried out
pub record Kept : Type 0 where
  pub contacts : List ContactEntry
  pub pending : List ContactEntry
  pub numbered : List (Option NumberedContact)
  pub firsts : List (List ℕ)
  pub seconds : List (List ℕ)
  pub made : List ℕ
  pub gone : List ℕ
  pub bound : ℕ

-- by the slot of the body on one side which numbers there are
abbrev pub numbers_on : Side → Kept → List (List ℕ)
numbers_on First k = k.firsts
numbers_on Second k = k.seconds

-- what the fields of a `ContactTable` hold: the places in the long list of those contacts of which a body may stir, and
-- what can be carried out; each contact has a number, and there is room for those that are made
pub record IsKeptContacts (a : Inside) : Type 0 where
  pub held : AreHeld a.state.memory.stirring a.contacts
  pub pending : IsPendingUpdate a.state.pending a.contacts
  pub book : IsBook a.numbers
  pub numbered : AreNumbered (contacts_in a.contacts) a.numbers.contacts.items
  pub room : a.state.pending.any ≡ true → HasRoomFor a.state.pending.made.items a.numbers

-- what a collide stands on: shapes in their order, marks for all of their bodies, and contacts that tell which of those
-- that aren't marked are near
pub record CanCollide (ps : List Proxy) (marks : List Bool) (forbidden : List BodyPair) (contacts : List ContactEntry) : Type 0 where
  pub shapes : IsProxyList ps
  pub within : AreWithin marks ps
  pub known : IsKnown (moved_by marks) forbidden ps contacts

-- what is kept beside the contacts before a collide: the places of those of which a body may stir, nothing that is
-- pending, and a number for each contact
pub record IsIdle (state : CollideState) (contacts : Split) (numbers : NumberBook) : Type 0 where
  pub held : AreHeld state.memory.stirring contacts
  pub nothing : IsNothing state.pending
  pub book : IsBook numbers
  pub numbered : AreNumbered (contacts_in contacts) numbers.contacts.items

-- the contacts are as they were, in lists for which what is kept beside them holds
pub record KeepContacts (state : CollideState) (old new : Split) : Type 0 where
  pub contacts : contacts_in new ≡ contacts_in old
  pub held : AreHeld state.memory.stirring new

-- what a collide makes of the contacts, and what touches by it, which ascends
pub record IsMadeOf (ps : List Proxy) (forbidden : List BodyPair) (old now : List ContactEntry) (t : Touches) : Type 0 where
  pub made : IsMade forbidden ps old now t.begin.items t.end.items
  pub begin_rising : AreRising t.begin.items
  pub end_rising : AreRising t.end.items
