-- Trusted: lists of contacts as the code keeps them: places in them, and what is written into them.
use Rattle.std.specs.Prelude.{ℕ, ◌<◌, ◌≤◌, ◌==◌, cond, List, length, map, slice_index_or, slice_set, Option, Some, None, option_map, All}
use Rattle.std.specs.List.{AllWithin}
use Rattle.contacts_base.specs.declared.key.ContactKey.{ContactKey}
use Rattle.contacts_base.specs.declared.contact.Contact.{Contact}
use Rattle.contacts_base.specs.declared.contact.ContactPoint.{ContactPoint}
use Rattle.contacts_base.specs.declared.contact.ContactEntry.{ContactEntry}
use Rattle.contacts_base.specs.declared.evaluation.Impulses.{Impulses}
use Rattle.contacts_base.specs.Keys.{key_number}
use Rattle.contacts_base.specs.Surfaces.{IsSurface}
use Rattle.contacts_base.specs.Contacts.{number_of, AreKeysRising}

abbrev pub keys_of : List ContactEntry → List ContactKey
keys_of es = map (λ e. e.key) es

-- what is kept of the contacts of near shapes
pub record AreContacts (entries : List ContactEntry) : Type 0 where
  pub rising : AreKeysRising entries
  pub surfaces : All (λ e. IsSurface e.surface) entries

-- ---- the first contact whose number isn't lower

-- the contacts before the place have lesser numbers
pub record IsAllBelow (entries : List ContactEntry) (number place : ℕ) : Type 0 where
  pub within : place ≤ length entries
  pub before : AllWithin (λ e. number_of e < number) entries 0 place

-- the contacts from the place on have no lesser numbers
pub record IsNoneBelow (entries : List ContactEntry) (number place : ℕ) : Type 0 where
  pub within : place ≤ length entries
  pub after : AllWithin (λ e. number ≤ number_of e) entries place (length entries)

-- those before the place have lesser numbers, and the contact at the place, if there is one, has not
pub record IsFirstFrom (entries : List ContactEntry) (number place : ℕ) : Type 0 where
  pub below : IsAllBelow entries number place
  pub there : (d : ContactEntry) → place < length entries → number ≤ number_of (slice_index_or entries place d)

-- ---- impulses and points that are written down

-- the point has these impulses
abbrev pub with_impulses : Impulses → ContactPoint → ContactPoint
with_impulses i p = record p { normal_impulse = i.normal_impulse; tangent_impulse = i.tangent_impulse }

-- the second point stays as it is where nothing is given for it
abbrev pub with_second : Option Impulses → Option ContactPoint → Option ContactPoint
with_second None point = point
with_second (Some i) point = option_map (with_impulses i) point

-- the contact's points have these impulses
abbrev pub with_points : Impulses → Option Impulses → ContactEntry → ContactEntry
with_points first second e = record e { contact = record e.contact { first = option_map (with_impulses first) e.contact.first; second = with_second second e.contact.second } }

-- the contact with the key has these impulses
abbrev pub impulses_given : ContactKey → Impulses → Option Impulses → List ContactEntry → List ContactEntry
impulses_given key first second es = map (λ e. cond (number_of e == key_number key) (with_points first second e) e) es

-- the contact at the index, if there is one, has these points
abbrev pub contact_set : ℕ → Contact → List ContactEntry → Option ContactEntry → List ContactEntry
contact_set index c entries None = entries
contact_set index c entries (Some e) = slice_set entries index (record e { contact = c })
