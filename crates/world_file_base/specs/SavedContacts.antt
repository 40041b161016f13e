-- Trusted: Saved contacts.
use Rattle.std.specs.Prelude.{ℕ, ◌^◌, ◌-◌, ◌++◌, Bool, List, [], ◌∷◌, Option, Some, None, codes, cond, nat_le, ℤ, pos, unsigned_abs}
use Rattle.std.specs.Option.{is_none}
use Rattle.serde_json.specs.Data.{Data, Items, no_items, item, boolean}
use Rattle.serde_json.specs.Events.{items_len}
use Rattle.serde_json.specs.Find.{get}
use Rattle.contacts_base.specs.Evaluate.{touches}
use Rattle.contacts_base.specs.declared.contact.Contact.{Contact}
use Rattle.contacts_base.specs.declared.contact.ContactEntry.{ContactEntry}
use Rattle.contacts_base.specs.declared.contact.ContactPoint.{ContactPoint}
use Rattle.contacts_base.specs.declared.key.ShapeId.{ShapeId}
use Rattle.contacts_base.specs.declared.limits.TheConstants.{MAX_NORMAL, MAX_OFFSET, MAX_SEPARATION}
use Rattle.world_file_base.specs.Reading.{first_in, items_in, number_in, second_item, truth_in, unsigned_in, vector_within}
use Rattle.world_file_base.specs.Written.{Member, integer, list_data, natural, natural_or_null, object_of, pair_data, vector_of}
use Rattle.world_file_base.specs.Versions.{colour_in}
use Rattle.world_file_base.specs.declared.saved.SavedContact.{SavedContact}
use Rattle.world_file_base.specs.declared.version.Version.{Version}

-- ---- how it is read

-- what is read of it, 0 if its size is beyond most
abbrev pub size_in : ℕ → Option Data → ℤ
size_in most value = cond (nat_le (unsigned_abs (number_in value)) most) (number_in value) (pos 0)

abbrev pub last_candidate : ℕ
last_candidate = 3

unfoldable pub point_in : Data → ContactPoint
point_in d = record {
  normal = vector_within MAX_NORMAL (get (codes "normal") d);
  separation = size_in MAX_SEPARATION (get (codes "sep") d);
  ra = vector_within MAX_OFFSET (get (codes "ra") d);
  rb = vector_within MAX_OFFSET (get (codes "rb") d);
  normal_impulse = number_in (get (codes "push") d);
  tangent_impulse = number_in (get (codes "slip") d);
  candidate = unsigned_in last_candidate (get (codes "candidate") d);
}

-- the first two points are kept
abbrev pub with_point : Contact → ContactPoint → Contact
with_point c p = cond (is_none c.first) (record c { first = Some p }) (cond (is_none c.second) (record c { second = Some p }) c)

abbrev pub with_points : Items → Contact → Contact
with_points no_items c = c
with_points (item d ds) c = with_points ds (with_point c (point_in d))

abbrev pub no_points : Contact
no_points = record { first = None; second = None }

-- the slot of a body, and the place of a shape among the body's
abbrev pub shape_id_in : Option Data → ShapeId
shape_id_in value = record { slot = unsigned_in (2 ^ 32 - 1) (first_in value); index = unsigned_in 255 (second_item value) }

unfoldable pub contact_in : Version → Data → SavedContact
contact_in version d = record {
  key = record { first = shape_id_in (get (codes "a") d); second = shape_id_in (get (codes "b") d) };
  touching = truth_in (get (codes "touching") d);
  colour = colour_in version (get (codes "colour") d);
  contact = with_points (items_in (get (codes "points") d)) no_points;
  points = items_len (items_in (get (codes "points") d));
}

abbrev pub contacts_in : Version → Items → List SavedContact
contacts_in version no_items = []
contacts_in version (item d ds) = contact_in version d ∷ contacts_in version ds

-- ---- how it is written

-- the members of a point
abbrev pub point_members : ContactPoint → List Member
point_members p =
    (codes "candidate", natural p.candidate)
    ∷ (codes "normal", vector_of p.normal)
    ∷ (codes "push", integer p.normal_impulse)
    ∷ (codes "ra", vector_of p.ra)
    ∷ (codes "rb", vector_of p.rb)
    ∷ (codes "sep", integer p.separation)
    ∷ (codes "slip", integer p.tangent_impulse)
    ∷ []

unfoldable pub point_data : ContactPoint → Data
point_data p = object_of (point_members p)

abbrev pub point_or_none : Option ContactPoint → List Data
point_or_none None = []
point_or_none (Some p) = point_data p ∷ []

abbrev pub each_point : Contact → List Data
each_point c = point_or_none c.first ++ point_or_none c.second

abbrev pub points_of : Contact → Data
points_of c = list_data (each_point c)

abbrev pub shape_id_of : ShapeId → Data
shape_id_of id = pair_data (natural id.slot) (natural id.index)

-- the members of a contact between these shapes
abbrev pub contact_members : ShapeId → ShapeId → Option ℕ → List Data → Bool → List Member
contact_members first second colour points touching =
    (codes "a", shape_id_of first)
    ∷ (codes "b", shape_id_of second)
    ∷ (codes "colour", natural_or_null colour)
    ∷ (codes "points", list_data points)
    ∷ (codes "touching", boolean touching)
    ∷ []

-- a contact, with its colour if it acts
unfoldable pub contact_data : ContactEntry → Option ℕ → Data
contact_data e colour = object_of (contact_members e.key.first e.key.second colour (each_point e.contact) (touches e.contact))

-- each contact with the colour in its place
abbrev pub each_contact : List ContactEntry → List (Option ℕ) → List Data
each_contact [] colours = []
each_contact (e ∷ contacts) [] = []
each_contact (e ∷ contacts) (colour ∷ colours) = contact_data e colour ∷ each_contact contacts colours

abbrev pub contacts_data : List ContactEntry → List (Option ℕ) → Data
contacts_data contacts colours = list_data (each_contact contacts colours)
