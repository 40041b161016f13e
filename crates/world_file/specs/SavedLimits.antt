-- Trusted: The second clause: each number of a saved world is within its limits, there are not too many slots, and each
-- body may have its shapes.
use Rattle.std.specs.Prelude.{ℕ, ◌^◌, ◌-◌, ◌&&◌, ◌||◌, Bool, true, nat_le, List, Option, Some, None, codes, is_some, option_and_then, ℤ, pos, neg_ℤ, int_le, unsigned_abs}
use Rattle.std.specs.Option.{is_none}
use Rattle.serde_json.specs.Data.{Data}
use Rattle.serde_json.specs.Events.{items_len}
use Rattle.serde_json.specs.Find.{get}
use Rattle.contacts_base.specs.declared.limits.TheConstants.{MAX_NORMAL, MAX_NORMAL_IMPULSE, MAX_OFFSET, MAX_SEPARATION, MAX_TANGENT_IMPULSE}
use Rattle.fixed_geom.specs.Facings.{is_facing}
use Rattle.fixed_geom.specs.Vectors.{is_within}
use Rattle.fixed_geom.specs.declared.limits.TheConstants.{MAX_POSITION, MAX_SPIN}
use Rattle.impulse_ledger.specs.declared.limits.TheConstants.{MAX_TOTAL}
use Rattle.joint_rows.specs.declared.limits.TheConstants.{MAX_ANCHOR, MAX_JOINT_IMPULSE, MAX_JOINT_LENGTH}
use Rattle.momenta.specs.declared.limits.TheConstants.{MAX_GRAVITY, MAX_MOMENTUM, MAX_SPEED}
use Rattle.plain_world.specs.Kinds.{is_static}
use Rattle.plain_world.specs.declared.body.Body.{Body}
use Rattle.plain_world.specs.declared.kind.Kind.{Kind}
use Rattle.plain_world.specs.declared.kind.Kind.TheVariants.{Static, Kinematic, Dynamic}
use Rattle.shapes.specs.Shapes.{is_between, shapes_refusal}
use Rattle.world_file_base.specs.Reading.{first_in, greatest, greatest_group, is_null, items_in, least, least_group, natural_of, number_in, second_item, text_in, vector_in, whole_in}
use Rattle.world_file_base.specs.SavedBodies.{bare_kind, body_in, facing_in, kind_in, least_mass, mass_in, most_angular, most_inertia, most_mass}
use Rattle.world_file_base.specs.SavedContacts.{last_candidate}
use Rattle.world_file_base.specs.SavedShapes.{most_bits, most_corner}
use Rattle.world_file_base.specs.SavedSlots.{body_key, joint_key}
use Rattle.world_file_base.specs.SavedTotals.{cause_in}
use Rattle.world_file_base.specs.Texts.{number_of_text, sized}
use Rattle.world_file_base.specs.Versions.{most_slots}
use Rattle.world_file_base.specs.declared.version.Version.{Version}
use Rattle.world_file.specs.Saved.{calls_in, most_calls, slow_ticks, version_in}
use Rattle.world_file.specs.SavedForms.{all_items, if_there}

-- ---- values by themselves

-- a whole number from low to high
abbrev pub is_from : ℤ → ℤ → Option Data → Bool
is_from low high value = is_between low high (whole_in value)

-- a whole number from 0 to high
abbrev pub is_up_to : ℕ → Option Data → Bool
is_up_to high value = is_some (natural_of high (whole_in value))

abbrev pub is_null_or_up_to : ℕ → Option Data → Bool
is_null_or_up_to high value = is_null value || is_up_to high value

-- a number of 64 bits with a sign
abbrev pub is_number : Option Data → Bool
is_number value = is_from least greatest value

abbrev pub are_two_numbers : Option Data → Bool
are_two_numbers value = is_number (first_in value) && is_number (second_item value)

-- a vector whose components are up to most in size
abbrev pub is_vector_within : ℕ → Option Data → Bool
is_vector_within most value = are_two_numbers value && is_within most (vector_in value)

-- a number up to most in size
abbrev pub is_sized : ℕ → Option Data → Bool
is_sized most value = is_number value && nat_le (unsigned_abs (number_in value)) most

-- a text of a number up to most in size
abbrev pub is_text_within : ℕ → Option Data → Bool
is_text_within most value = is_some (option_and_then (sized most) (number_of_text (text_in value)))

-- ---- the ledger

abbrev pub is_total_within : Option Data → Bool
is_total_within value = is_text_within MAX_TOTAL (first_in value) && is_text_within MAX_TOTAL (second_item value)

abbrev pub are_totals_within : Option Data → Bool
are_totals_within value =
    is_total_within (cause_in (codes "command") value)
    && is_total_within (cause_in (codes "gravity") value)
    && is_total_within (cause_in (codes "immovable") value)
    && is_total_within (cause_in (codes "clamp") value)
    && is_total_within (cause_in (codes "rest") value)
    && is_total_within (cause_in (codes "departed") value)

-- ---- shapes

abbrev pub are_ends_numbers : Option Data → Bool
are_ends_numbers value = are_two_numbers (first_in value) && are_two_numbers (second_item value)

abbrev pub is_round_within : Option Data → Data → Bool
is_round_within (Some core) d = are_two_numbers (Some core) && is_number (get (codes "radius") d)
is_round_within None d = are_ends_numbers (get (codes "segment") d)

abbrev pub is_long_within : Option Data → Data → Bool
is_long_within (Some core) d = are_ends_numbers (Some core) && is_number (get (codes "radius") d)
is_long_within None d = is_round_within (get (codes "circle") d) d

abbrev pub is_box_within : ℕ → Option Data → Bool
is_box_within most value = is_vector_within most (first_in value) && is_vector_within most (second_item value)

unfoldable pub is_shape_within : Data → Bool
is_shape_within d =
    is_long_within (get (codes "capsule") d) d
    && is_number (get (codes "friction") d)
    && is_number (get (codes "restitution") d)
    && is_up_to most_bits (get (codes "category") d)
    && is_up_to most_bits (get (codes "mask") d)
    && is_from least_group greatest_group (get (codes "group") d)
    && is_box_within most_corner (get (codes "fat") d)

-- ---- bodies

abbrev pub is_course_within : Kind → Data → Bool
is_course_within Static d = true
is_course_within (Kinematic course) d =
    is_vector_within (unsigned_abs MAX_SPEED) (get (codes "velocity") d)
    && is_from (neg_ℤ MAX_SPIN) MAX_SPIN (get (codes "spin") d)
is_course_within Dynamic d = true

-- the length of a facing is 2^30, to within 2
abbrev pub is_facing_within : Option Data → Bool
is_facing_within value = are_two_numbers value && is_facing (facing_in value)

unfoldable pub is_motion_within : ℤ → Data → Bool
is_motion_within inertia d =
    is_vector_within (unsigned_abs MAX_MOMENTUM) (get (codes "p") d)
    && is_text_within (most_angular inertia) (get (codes "l") d)
    && is_vector_within (unsigned_abs MAX_POSITION) (get (codes "at") d)
    && is_facing_within (get (codes "facing") d)

-- one to eight shapes of allowed forms, whose numbers are within their limits; a segment at a static body alone
abbrev pub may_have_shapes : Body → Bool
may_have_shapes b = is_none (shapes_refusal (is_static b.kind) b.shapes)

-- of a world in which none was slow for longer than so many ticks
unfoldable pub is_body_within : ℕ → Data → Bool
is_body_within most_ticks d =
    is_course_within (bare_kind d) d
    && is_from (least_mass (kind_in d)) (most_mass (kind_in d)) (get (codes "mass") d)
    && is_from (pos 0) (most_inertia (kind_in d)) (get (codes "inertia") d)
    && is_motion_within (mass_in (kind_in d) d).inertia d
    && is_null_or_up_to (2 ^ 32 - 1) (get (codes "island") d)
    && is_up_to most_ticks (get (codes "timer") d)
    && all_items is_shape_within (items_in (get (codes "shapes") d))
    && may_have_shapes (body_in most_ticks d)

-- ---- joints

unfoldable pub is_joint_within : Data → Bool
is_joint_within d =
    is_null_or_up_to 255 (get (codes "colour") d)
    && is_vector_within (unsigned_abs MAX_ANCHOR) (get (codes "from") d)
    && is_from (neg_ℤ MAX_JOINT_IMPULSE) MAX_JOINT_IMPULSE (get (codes "impulse") d)
    && is_from (pos 0) MAX_JOINT_LENGTH (get (codes "length") d)
    && is_vector_within (unsigned_abs MAX_ANCHOR) (get (codes "to") d)

-- ---- contacts

unfoldable pub is_point_within : Data → Bool
is_point_within d =
    is_vector_within MAX_NORMAL (get (codes "normal") d)
    && is_sized MAX_SEPARATION (get (codes "sep") d)
    && is_vector_within MAX_OFFSET (get (codes "ra") d)
    && is_vector_within MAX_OFFSET (get (codes "rb") d)
    && (is_sized MAX_NORMAL_IMPULSE (get (codes "push") d) && int_le (pos 0) (number_in (get (codes "push") d)))
    && is_sized MAX_TANGENT_IMPULSE (get (codes "slip") d)
    && is_up_to last_candidate (get (codes "candidate") d)

-- the slot of a body, and the place of a shape among the body's
abbrev pub is_shape_id_within : Option Data → Bool
is_shape_id_within value = is_up_to (2 ^ 32 - 1) (first_in value) && is_up_to 255 (second_item value)

unfoldable pub is_contact_within : Data → Bool
is_contact_within d =
    is_shape_id_within (get (codes "a") d)
    && is_shape_id_within (get (codes "b") d)
    && is_null_or_up_to 255 (get (codes "colour") d)
    && all_items is_point_within (items_in (get (codes "points") d))

-- ---- the whole

-- a list of no more slots than a world of this version has
abbrev pub are_few_slots : Version → Option Data → Bool
are_few_slots version value = nat_le (items_len (items_in value)) (most_slots version)

-- what is in a slot is within its limits
abbrev pub is_slot_within : List ℕ → (Data → Bool) → Data → Bool
is_slot_within key test d = if_there test (get key d)

unfoldable pub is_in_limits : Data → Bool
is_in_limits d =
    is_vector_within (unsigned_abs MAX_GRAVITY) (get (codes "gravity") d)
    && is_up_to most_calls (get (codes "call") d)
    && is_up_to (calls_in d) (get (codes "step") d)
    && are_totals_within (get (codes "ledger") d)
    && are_few_slots (version_in d) (get (codes "bodies") d)
    && all_items (is_slot_within body_key (is_body_within (slow_ticks d))) (items_in (get (codes "bodies") d))
    && are_few_slots (version_in d) (get (codes "joints") d)
    && all_items (is_slot_within joint_key is_joint_within) (items_in (get (codes "joints") d))
    && all_items is_contact_within (items_in (get (codes "contacts") d))
