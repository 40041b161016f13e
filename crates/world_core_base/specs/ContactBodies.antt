-- Trusted: What holds of the contacts of a world: their bodies are there and differ, one of them moves, and their
-- numbers are in range.
use Rattle.std.specs.Prelude.{◌≡◌, ◌<◌, ◌⊎◌, ◌≢◌, true, List, length, All, Option}
use Rattle.contacts_base.specs.declared.contact.ContactEntry.{ContactEntry}
use Rattle.contacts_base.specs.Limits.{IsContact}
use Rattle.plain_world.specs.declared.body.Body.{Body}
use Rattle.plain_world.specs.Bodies.{moves}

pub record IsContactOf (bodies : List (Option Body)) (e : ContactEntry) : Type 0 where
  pub first : e.key.first.slot < length bodies
  pub second : e.key.second.slot < length bodies
  pub apart : e.key.first.slot ≢ e.key.second.slot
  pub mover : (moves bodies e.key.first.slot ≡ true) ⊎ (moves bodies e.key.second.slot ≡ true)
  pub contact : IsContact e.contact

abbrev pub AreContactsOf : List (Option Body) → List ContactEntry → Type 0
AreContactsOf bodies contacts = All (IsContactOf bodies) contacts
