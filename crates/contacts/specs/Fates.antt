-- What becomes in a collide of the contacts that there are.
use Rattle.std.specs.Prelude.{◌≡◌, ℕ, ◌<◌, ◌/◌, Bool, true, false, ◌||◌, cond, List, [], ◌∷◌, ◌++◌, drop, length, Option, Some, None, is_some, slice_index_or}
use Rattle.std.specs.List.{filter_map}
use Rattle.contacts_base.specs.declared.near.Proxy.{Proxy}
use Rattle.contacts_base.specs.declared.key.ContactKey.{ContactKey}
use Rattle.contacts_base.specs.declared.contact.ContactEntry.{ContactEntry}
use Rattle.contacts_base.specs.Contacts.{number_of as entry_number}
use Rattle.contacts_base.specs.Keys.{id_number}
use Rattle.contacts_base.specs.declared.body_pair.BodyPair.{BodyPair}
use Rattle.contacts.specs.declared.fates.Fate.{Fate}
use Rattle.contacts.specs.declared.fates.Fate.TheVariants.{Stays, Goes, Renewed}
use Rattle.contacts_base.specs.declared.split.Renewal.{Renewal}
use Rattle.contacts_base.specs.ByPairs.{contacts_between}
use Rattle.contacts_base.specs.Changes.{key_if_new, keys_touching_only_in}
use Rattle.contacts.specs.Known.{again, found, stays}
use Rattle.contacts_base.specs.Merge.{below_of, beyond_of}

-- a shape has moved if its body's slot is marked, or is beyond the marks
abbrev pub moved_by : List Bool → ℕ → Bool
moved_by marks n = slice_index_or marks (n / 256) true

-- each shape is of a slot that the marks have
abbrev pub AreWithin : List Bool → List Proxy → Type 0
AreWithin marks ps = (n : ℕ) → is_some (found ps n) ≡ true → n / 256 < length marks

-- the shape is there, and its body stirs
abbrev pub stirs_in : Option Proxy → Bool
stirs_in None = false
stirs_in (Some p) = p.stirs

-- the body of one of the contact's shapes stirs
abbrev pub one_stirs_of : List Proxy → ContactKey → Bool
one_stirs_of ps k = stirs_in (found ps (id_number k.first)) || stirs_in (found ps (id_number k.second))

-- ---- one contact

-- what the contact is after its fate, if it is still there
abbrev pub after_fate : ContactEntry → Fate → Option ContactEntry
after_fate e Stays = Some e
after_fate e Goes = None
after_fate e (Renewed c) = Some (record e { contact = c })

-- what becomes of the contact: evaluated anew in its place, or gone
abbrev pub outcome : (ℕ → Bool) → List BodyPair → List Proxy → ContactEntry → Option ContactEntry
outcome moved pairs ps e = cond (stays moved pairs ps e) (Some (again ps e)) None

-- its key, if it touches after its fate and didn't before
abbrev pub key_if_begun : ContactEntry → Option ContactEntry → Option ContactKey
key_if_begun e None = None
key_if_begun e (Some f) = key_if_new (Some e) f

-- its key, if it isn't there after its fate
abbrev pub key_if_gone : ContactEntry → Option ContactEntry → Option ContactKey
key_if_gone e None = Some e.key
key_if_gone e (Some f) = None

-- ---- all of them

-- the keys of those that begin to touch
abbrev pub begun_keys : (ℕ → Bool) → List BodyPair → List Proxy → List ContactEntry → List ContactKey
begun_keys moved pairs ps old = filter_map (λ e. key_if_begun e (outcome moved pairs ps e)) old

-- of those that touched, and don't any more or are gone
abbrev pub ended_keys : (ℕ → Bool) → List BodyPair → List Proxy → List ContactEntry → List ContactKey
ended_keys moved pairs ps old = filter_map (λ e. key_if_new (outcome moved pairs ps e) e) old

-- of those that go
abbrev pub gone_keys : (ℕ → Bool) → List BodyPair → List Proxy → List ContactEntry → List ContactKey
gone_keys moved pairs ps old = filter_map (λ e. key_if_gone e (outcome moved pairs ps e)) old

-- what a fate notes of the contact at a place
abbrev pub noted : ℕ → Fate → List Renewal
noted place Stays = []
noted place Goes = []
noted place (Renewed c) = record { place = place; contact = c } ∷ []

-- ---- the list made anew

-- what becomes of a contact, with the fresh ones before it, is added to a list: `place` fresh ones were in it before,
-- and `next` are after
abbrev pub IsAdded : Option ContactEntry → List ContactEntry → ℕ → ℕ → List ContactEntry → List ContactEntry → Type 0
IsAdded None fresh place next all more = (more ≡ all) × (next ≡ place)
IsAdded (Some f) fresh place next all more = (more ≡ (all ++ below_of entry_number f (drop place fresh)) ++ f ∷ []) × (drop next fresh ≡ beyond_of entry_number f (drop place fresh))

-- ---- the whole

-- what a collide makes of the contacts, and which begin and end to touch
pub record IsMade (pairs : List BodyPair) (ps : List Proxy) (old now : List ContactEntry) (begin end : List ContactKey) : Type 0 where
  pub now_is : now ≡ contacts_between pairs ps old
  pub begin_is : begin ≡ keys_touching_only_in old (contacts_between pairs ps old)
  pub end_is : end ≡ keys_touching_only_in (contacts_between pairs ps old) old
