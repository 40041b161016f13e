-- Which near pairs are known from the contacts that there are: those of shapes that haven't moved.
use Rattle.std.specs.Prelude.{◌≡◌, ℕ, ◌<◌, ◌==◌, ◌^◌, Bool, true, false, not, cond, List, [], ◌∷◌, map, filter, All, Option, Some, None, is_some, ◌↔◌, ◌⊎◌}
use Rattle.std.specs.List.{Contains}
use Rattle.contacts_base.specs.declared.near.Proxy.{Proxy}
use Rattle.contacts_base.specs.declared.key.ContactKey.{ContactKey}
use Rattle.contacts_base.specs.declared.contact.ContactEntry.{ContactEntry}
use Rattle.contacts_base.specs.Keys.{id_number, key_number}
use Rattle.contacts_base.specs.Near.{is_near}
use Rattle.contacts_base.specs.Proxies.{IsProxyList, number_of}
use Rattle.contacts_base.specs.Contacts.{lookup, AreKeysRising, number_of as entry_number}
use Rattle.contacts_base.specs.declared.body_pair.BodyPair.{BodyPair}
use Rattle.contacts_base.specs.Changes.{contact_with}
use Rattle.contacts.specs.ByCodes.{contacts_of, allowed_codes}
use Rattle.contacts_base.specs.Forbidden.{is_forbidden}
use Rattle.contacts_base.specs.Merge.{merged}
use Rattle.contacts.specs.Pairs.{pair_key}

-- the shape with the number
abbrev pub found : List Proxy → ℕ → Option Proxy
found [] n = None
found (p ∷ ps) n = cond (number_of p == n) (Some p) (found ps n)

-- the two shapes are near, and nothing keeps their bodies from colliding
abbrev pub may_touch : List BodyPair → Proxy → Proxy → Bool
may_touch pairs p q = cond (is_near p q) (not (is_forbidden pairs p q)) false

abbrev pub both_near : List BodyPair → Option Proxy → Option Proxy → Bool
both_near pairs None q = false
both_near pairs (Some p) None = false
both_near pairs (Some p) (Some q) = may_touch pairs p q

-- both shapes are there, are near, and may touch
abbrev pub near_key : List BodyPair → List Proxy → ContactKey → Bool
near_key pairs ps k = both_near pairs (found ps (id_number k.first)) (found ps (id_number k.second))

-- there is a contact with the key
abbrev pub has_key : List ContactEntry → ContactKey → Bool
has_key old k = is_some (lookup old k)

-- the key of two shapes, the lesser first
pub record IsPairKey (k : ContactKey) : Type 0 where
  pub before : id_number k.first < id_number k.second
  pub small : id_number k.second < 2 ^ 40
  pub first_index : k.first.index < 256
  pub second_index : k.second.index < 256

-- one of the two has moved: `moved` tells it of a shape's number
abbrev pub either_moved : (ℕ → Bool) → ContactKey → Bool
either_moved moved k = cond (moved (id_number k.first)) true (moved (id_number k.second))

-- two shapes that haven't moved are near and may touch just where they have a contact
pub record IsKnown (moved : ℕ → Bool) (pairs : List BodyPair) (ps : List Proxy) (old : List ContactEntry) : Type 0 where
  pub keys : All (λ e. IsPairKey e.key) old
  pub still : (k : ContactKey) → IsPairKey k → either_moved moved k ≡ false → near_key pairs ps k ≡ has_key old k

-- what two shapes were to one another is what they are now: neither had moved, they are as near as they were, and they
-- have a contact where they had one
pub record IsSameOf (moved : ℕ → Bool) (pairs later : List BodyPair) (ps qs : List Proxy) (old now : List ContactEntry) (k : ContactKey) : Type 0 where
  pub unmoved : either_moved moved k ≡ false
  pub near : near_key later qs k ≡ near_key pairs ps k
  pub contact : has_key now k ≡ has_key old k

-- ---- the near pairs in two parts

-- the contact stays: its shapes haven't moved, or they are still near
abbrev pub stays : (ℕ → Bool) → List BodyPair → List Proxy → ContactEntry → Bool
stays moved pairs ps e = cond (either_moved moved e.key) (near_key pairs ps e.key) true

abbrev pub staying : (ℕ → Bool) → List BodyPair → List Proxy → List ContactEntry → List ContactEntry
staying moved pairs ps old = filter (stays moved pairs ps) old

-- the pair has a shape that has moved, and no contact
abbrev pub is_fresh : (ℕ → Bool) → List Proxy → List ContactEntry → ℕ → Bool
is_fresh moved ps old c = cond (either_moved moved (pair_key ps c)) (not (has_key old (pair_key ps c))) false

abbrev pub fresh : (ℕ → Bool) → List BodyPair → List Proxy → List ContactEntry → List ℕ
fresh moved pairs ps old = filter (is_fresh moved ps old) (allowed_codes pairs ps)

abbrev pub code_number : List Proxy → ℕ → ℕ
code_number ps c = key_number (pair_key ps c)

-- nothing has moved
abbrev pub all_still : ℕ → Bool
all_still n = false

-- the near pairs are the contacts that stay and the fresh ones
abbrev pub NearAreKnown : Type 0
NearAreKnown = (moved : ℕ → Bool) (pairs : List BodyPair) (ps : List Proxy) (old : List ContactEntry) → IsProxyList ps → IsKnown moved pairs ps old → (n : ℕ) → Contains (map (code_number ps) (allowed_codes pairs ps)) n ↔ (Contains (map entry_number (staying moved pairs ps old)) n ⊎ Contains (map (code_number ps) (fresh moved pairs ps old)) n)

-- after a collide all is known, with nothing moved
abbrev pub AllKnownAfter : Type 0
AllKnownAfter = (pairs : List BodyPair) (ps : List Proxy) (old : List ContactEntry) → IsProxyList ps → IsKnown all_still pairs ps (contacts_of old ps (allowed_codes pairs ps))

-- it stays so under a change that marks as moved whatever it changes
abbrev pub KnownStays : Type 0
KnownStays = (moved after : ℕ → Bool) (pairs later : List BodyPair) (ps qs : List Proxy) (old now : List ContactEntry) → IsKnown moved pairs ps old → All (λ e. IsPairKey e.key) now → ((k : ContactKey) → IsPairKey k → either_moved after k ≡ false → IsSameOf moved pairs later ps qs old now k) → IsKnown after later qs now

-- ---- the contacts of a collide in two parts

-- the contact evaluated anew in its place, if the body of one of its shapes stirs
abbrev pub again_of : ContactEntry → Option Proxy → Option Proxy → ContactEntry
again_of e None q = e
again_of e (Some p) None = e
again_of e (Some p) (Some q) = record e { contact = contact_with (Some e) p q }

abbrev pub again : List Proxy → ContactEntry → ContactEntry
again ps e = again_of e (found ps (id_number e.key.first)) (found ps (id_number e.key.second))

-- the contacts after a collide: those that stay, evaluated in their places, with those of the fresh pairs put in
abbrev pub ContactsInParts : Type 0
ContactsInParts = (moved : ℕ → Bool) (pairs : List BodyPair) (ps : List Proxy) (old : List ContactEntry) → IsProxyList ps → AreKeysRising old → IsKnown moved pairs ps old → contacts_of old ps (allowed_codes pairs ps) ≡ merged entry_number (contacts_of old ps (fresh moved pairs ps old)) (map (again ps) (staying moved pairs ps old))
