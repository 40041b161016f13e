-- Inner forms of the code; no public contract rests on them. What the parts of a collide make of the two lists.
use Rattle.std.specs.Prelude.{◌≡◌, ℕ, Bool, List, [], ◌∷◌, map, Option, Some, None, option_map, slice_get}
use Rattle.std.specs.List.{filter_map}
use Rattle.std.specs.Option.{ForSome}
use Rattle.contacts_base.specs.declared.near.Proxy.{Proxy}
use Rattle.contacts_base.specs.declared.key.ContactKey.{ContactKey}
use Rattle.contacts_base.specs.declared.contact.ContactEntry.{ContactEntry}
use Rattle.contacts_base.specs.declared.split.Renewal.{Renewal}
use Rattle.contacts_base.specs.Keys.{key_number}
use Rattle.contacts_base.specs.Contacts.{number_of}
use Rattle.contacts_base.specs.ContactLists.{AreContacts}
use Rattle.contacts_base.specs.Merge.{merged}
use Rattle.contacts_base.specs.Split.{Split, carried, contacts_in, counting, over_at, renewed}
use Rattle.contacts_base.specs.declared.body_pair.BodyPair.{BodyPair}
use Rattle.contacts.specs.declared.rebuild.Rebuilt.{Rebuilt}
use Rattle.contacts.specs.declared.fates.Fate.{Fate}
use Rattle.contacts.specs.declared.fates.Fate.TheVariants.{Stays, Goes, Renewed}
use Rattle.contacts_base.specs.Changes.{key_if_new}
use Rattle.contacts_base.specs.ChangedKeys.{AreRising}
use Rattle.contacts.specs.Known.{again, staying}
use Rattle.contacts.specs.Fates.{IsMade, begun_keys, ended_keys, gone_keys, key_if_begun, outcome, after_fate}

-- ---- one contact of the long list

-- its fate; where there is none that counts, nothing happens
abbrev pub IsFate : (ℕ → Bool) → List BodyPair → List Proxy → Option ContactEntry → Fate → Type 0
IsFate moved pairs ps None fate = fate ≡ Stays
IsFate moved pairs ps (Some e) fate = after_fate e fate ≡ outcome moved pairs ps e

-- its key, if it touches after its fate and didn't before
abbrev pub begun_of : Option ContactEntry → Fate → Option ContactKey
begun_of None fate = None
begun_of (Some e) fate = key_if_begun e (after_fate e fate)

-- its key, if it touched and doesn't any more
abbrev pub ended_of : Option ContactEntry → Fate → Option ContactKey
ended_of None fate = None
ended_of (Some e) fate = key_if_new (after_fate e fate) e

-- its place, if it goes
abbrev pub ending : ℕ → Fate → List ℕ
ending place Stays = []
ending place Goes = place ∷ []
ending place (Renewed c) = []

-- ---- both lists

-- the keys of the contacts of a list at these places
abbrev pub keys_at : List ContactEntry → List ℕ → List ContactKey
keys_at es places = filter_map (λ place. option_map (λ (e : ContactEntry). e.key) (slice_get es place)) places

-- what was noted of the long list makes of those that count what the collide makes of them
pub record IsLookedOver (moved : ℕ → Bool) (pairs : List BodyPair) (ps : List Proxy) (s : Split) (notes : List Renewal) (ends : List ℕ) (begin end : List ContactKey) : Type 0 where
  pub now_is : counting (over_at ends s.over) (renewed notes s.long) ≡ map (again ps) (staying moved pairs ps (counting s.over s.long))
  pub begin_is : begin ≡ begun_keys moved pairs ps (counting s.over s.long)
  pub end_is : end ≡ ended_keys moved pairs ps (counting s.over s.long)
  pub gone_is : keys_at s.long ends ≡ gone_keys moved pairs ps (counting s.over s.long)

-- the short list anew, with the fresh contacts
pub record IsRebuilt (moved : ℕ → Bool) (pairs : List BodyPair) (ps : List Proxy) (short fresh all : List ContactEntry) (begin end : List ContactKey) : Type 0 where
  pub now_is : all ≡ merged number_of (map (again ps) (staying moved pairs ps short)) fresh
  pub begin_is : begin ≡ merged key_number (filter_map (key_if_new None) fresh) (begun_keys moved pairs ps short)
  pub end_is : end ≡ ended_keys moved pairs ps short

-- the same, where it may have stayed as it is
abbrev pub IsRebuiltIf : (ℕ → Bool) → List BodyPair → List Proxy → List ContactEntry → List ContactEntry → Option Rebuilt → Type 0
IsRebuiltIf moved pairs ps short fresh None = IsRebuilt moved pairs ps short fresh short [] []
IsRebuiltIf moved pairs ps short fresh (Some r) = IsRebuilt moved pairs ps short fresh r.all.items r.touches.begin.items r.touches.end.items

-- the keys of those of the short list that go: none where it stays as it is
abbrev pub AreGoneIf : (ℕ → Bool) → List BodyPair → List Proxy → List ContactEntry → Option Rebuilt → Type 0
AreGoneIf moved pairs ps short None = [] ≡ gone_keys moved pairs ps short
AreGoneIf moved pairs ps short (Some r) = r.gone.items ≡ gone_keys moved pairs ps short

-- what a collide makes of both lists, and which contacts begin and end to touch
pub record IsDone (pairs : List BodyPair) (ps : List Proxy) (s : Split) (notes : List Renewal) (ends : List ℕ) (short : Option (List ContactEntry)) (begin end : List ContactKey) : Type 0 where
  pub short_is : ForSome short (λ es. AreContacts es)
  pub contacts : AreContacts (contacts_in (carried notes ends short s))
  pub made : IsMade pairs ps (contacts_in s) (contacts_in (carried notes ends short s)) begin end
  pub begin_rises : AreRising begin
  pub end_rises : AreRising end
