-- Inner: what is asked of saved contacts while they are read.
use Rattle.std.specs.Prelude.{ℕ, ◌^◌, ◌-◌, [], ◌∷◌, Option, codes, nat_le, pos, int_le, unsigned_abs}
use Rattle.serde_json.specs.Data.{Data, Items, no_items, item}
use Rattle.serde_json.specs.Find.{get}
use Rattle.contacts_base.specs.declared.limits.TheConstants.{MAX_NORMAL, MAX_NORMAL_IMPULSE, MAX_OFFSET, MAX_SEPARATION, MAX_TANGENT_IMPULSE}
use Rattle.world_file_base.specs.Asks.{Ask, all_asked, asked}
use Rattle.world_file_base.specs.Reading.{first_in, has_keys, items_in, number_in, second_item}
use Rattle.world_file_base.specs.AskedValues.{list_asks, number_asks, pair_asks, truth_asks, unsigned_asks, vector_within_asks, colour_asks}
use Rattle.world_file_base.specs.declared.clause.Clause.TheVariants.{Form, Limits}
use Rattle.world_file_base.specs.declared.version.Version.{Version}
use Rattle.world_file_base.specs.SavedContacts.{last_candidate}

-- a number of a size up to most
abbrev pub size_asks : ℕ → Option Data → Ask
size_asks most value reader = asked (nat_le (unsigned_abs (number_in value)) most) Limits (number_asks value reader)

-- the impulse along the normal, which is at least 0
abbrev pub push_asks : Option Data → Ask
push_asks value reader = asked (int_le (pos 0) (number_in value)) Limits (size_asks MAX_NORMAL_IMPULSE value reader)

unfoldable pub point_asks : Data → Ask
point_asks d = all_asked (
    asked (has_keys 7 d) Form
    ∷ vector_within_asks MAX_NORMAL (get (codes "normal") d)
    ∷ size_asks MAX_SEPARATION (get (codes "sep") d)
    ∷ vector_within_asks MAX_OFFSET (get (codes "ra") d)
    ∷ vector_within_asks MAX_OFFSET (get (codes "rb") d)
    ∷ push_asks (get (codes "push") d)
    ∷ size_asks MAX_TANGENT_IMPULSE (get (codes "slip") d)
    ∷ unsigned_asks last_candidate (get (codes "candidate") d)
    ∷ [])

abbrev pub points_asks : Items → Ask
points_asks no_items reader = reader
points_asks (item d ds) reader = points_asks ds (point_asks d reader)

abbrev pub shape_id_asks : Option Data → Ask
shape_id_asks value reader = unsigned_asks 255 (second_item value) (unsigned_asks (2 ^ 32 - 1) (first_in value) (pair_asks value reader))

unfoldable pub contact_asks : Version → Data → Ask
contact_asks version d = all_asked (
    asked (has_keys 5 d) Form
    ∷ shape_id_asks (get (codes "a") d)
    ∷ shape_id_asks (get (codes "b") d)
    ∷ truth_asks (get (codes "touching") d)
    ∷ colour_asks version (get (codes "colour") d)
    ∷ list_asks (get (codes "points") d)
    ∷ points_asks (items_in (get (codes "points") d))
    ∷ [])

abbrev pub contacts_asks : Version → Items → Ask
contacts_asks version no_items reader = reader
contacts_asks version (item d ds) reader = contacts_asks version ds (contact_asks version d reader)
