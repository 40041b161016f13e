-- Trusted: The contacts that a collide makes, by pairs of shapes.
use Rattle.std.specs.Prelude.{not, List, [], ◌∷◌, ◌++◌, map, filter}
use Rattle.contacts_base.specs.declared.near.Proxy.{Proxy}
use Rattle.contacts_base.specs.declared.contact.ContactEntry.{ContactEntry}
use Rattle.contacts_base.specs.Near.{is_near}
use Rattle.contacts_base.specs.declared.body_pair.BodyPair.{BodyPair}
use Rattle.contacts_base.specs.Changes.{entry_of}
use Rattle.contacts_base.specs.Forbidden.{is_forbidden}

-- each two shapes of the list that are near one another
abbrev pub near_pairs : List Proxy → List (Proxy × Proxy)
near_pairs [] = []
near_pairs (p ∷ ps) = map (λ q. (p, q)) (filter (is_near p) ps) ++ near_pairs ps

-- a contact for each two near shapes whose bodies nothing keeps from colliding, with what it kept if it was among the
-- old ones
unfoldable pub contacts_between : List BodyPair → List Proxy → List ContactEntry → List ContactEntry
contacts_between forbidden ps old = map (λ pair. entry_of old pair.0 pair.1) (filter (λ pair. not (is_forbidden forbidden pair.0 pair.1)) (near_pairs ps))
