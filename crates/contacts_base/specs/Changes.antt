-- Trusted: What becomes of the contacts.
use Rattle.std.specs.Prelude.{cond, List, Option, Some, None}
use Rattle.std.specs.List.{filter_map}
use Rattle.std.specs.Option.{option_map_or}
use Rattle.shapes.specs.Manifolds.{manifold_of}
use Rattle.contacts_base.specs.declared.near.Proxy.{Proxy}
use Rattle.contacts_base.specs.declared.key.ContactKey.{ContactKey}
use Rattle.contacts_base.specs.declared.contact.Contact.{Contact}
use Rattle.contacts_base.specs.declared.contact.ContactEntry.{ContactEntry}
use Rattle.contacts_base.specs.declared.surface.Surface.{Surface}
use Rattle.contacts_base.specs.Surfaces.{mixed}
use Rattle.contacts_base.specs.Contacts.{lookup, is_touching}
use Rattle.contacts_base.specs.Evaluate.{apart, evaluated, touches}
use Rattle.contacts_base.specs.Near.{one_stirs}

-- a contact keeps its surface; a new one has what the two shapes' mix to
abbrev pub surface_with : Option ContactEntry → Proxy → Proxy → Surface
surface_with old p q = option_map_or (λ (e : ContactEntry). e.surface) old (mixed p.surface q.surface)

-- the points that a contact has; a new one has none
abbrev pub kept_contact : Option ContactEntry → Contact
kept_contact old = option_map_or (λ (e : ContactEntry). e.contact) old apart

-- evaluated anew, if the body of one of the shapes stirs; else kept
abbrev pub contact_with : Option ContactEntry → Proxy → Proxy → Contact
contact_with old p q = cond (one_stirs p q) (evaluated old (manifold_of p.shape p.pose q.shape q.pose)) (kept_contact old)

abbrev pub key_of : Proxy → Proxy → ContactKey
key_of p q = record { first = p.id; second = q.id }

-- the contact of two shapes, which was `old` before if it was there
unfoldable pub entry_with : Option ContactEntry → Proxy → Proxy → ContactEntry
entry_with old p q = record { key = key_of p q; surface = surface_with old p q; contact = contact_with old p q }

-- the contact of two shapes, which was among the old ones or wasn't
unfoldable pub entry_of : List ContactEntry → Proxy → Proxy → ContactEntry
entry_of old p q = entry_with (lookup old (key_of p q)) p q

-- the entry's key, if it touches and the other contact with its key, if there is one, doesn't
unfoldable pub key_if_new : Option ContactEntry → ContactEntry → Option ContactKey
key_if_new other e = cond (touches e.contact) (cond (is_touching other) None (Some e.key)) None

unfoldable pub key_if_touching : List ContactEntry → ContactEntry → Option ContactKey
key_if_touching others e = key_if_new (lookup others e.key) e

-- the keys of entries that touch, and among the others don't touch or aren't
abbrev pub keys_touching_only_in : List ContactEntry → List ContactEntry → List ContactKey
keys_touching_only_in others entries = filter_map (key_if_touching others) entries
