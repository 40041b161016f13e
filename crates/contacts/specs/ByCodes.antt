-- Inner: the running form of the contacts that a collide makes, by codes of pairs of shapes.
use Rattle.std.specs.Prelude.{ℕ, Bool, not, List, filter, map, ◌≡◌}
use Rattle.contacts_base.specs.NearCodes.{near_codes}
use Rattle.contacts_base.specs.declared.near.Proxy.{Proxy}
use Rattle.contacts_base.specs.declared.contact.ContactEntry.{ContactEntry}
use Rattle.contacts_base.specs.Proxies.{IsProxyList}
use Rattle.contacts_base.specs.declared.body_pair.BodyPair.{BodyPair}
use Rattle.contacts.specs.Pairs.{proxy_at, first_place, second_place}
use Rattle.contacts_base.specs.Forbidden.{is_forbidden}
use Rattle.contacts_base.specs.Changes.{entry_of}
use Rattle.contacts_base.specs.ByPairs.{contacts_between}

-- the bodies of the pair of shapes with this code aren't among these pairs
abbrev pub is_allowed : List BodyPair → List Proxy → ℕ → Bool
is_allowed pairs ps code = not (is_forbidden pairs (proxy_at ps (first_place code)) (proxy_at ps (second_place code)))

-- the near pairs of shapes whose bodies nothing keeps from colliding, ascending
abbrev pub allowed_codes : List BodyPair → List Proxy → List ℕ
allowed_codes pairs ps = filter (is_allowed pairs ps) (near_codes ps)

abbrev pub entry_at : List ContactEntry → List Proxy → ℕ → ContactEntry
entry_at old ps code = entry_of old (proxy_at ps (first_place code)) (proxy_at ps (second_place code))

-- the contacts of all pairs
abbrev pub contacts_of : List ContactEntry → List Proxy → List ℕ → List ContactEntry
contacts_of old ps codes = map (entry_at old ps) codes

-- the running form, by the codes of the pairs, makes the same contacts
abbrev pub ContactsByCodes : Type 0
ContactsByCodes = (forbidden : List BodyPair) (ps : List Proxy) (old : List ContactEntry) → IsProxyList ps → contacts_between forbidden ps old ≡ contacts_of old ps (allowed_codes forbidden ps)
