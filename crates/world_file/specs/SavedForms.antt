-- Trusted: The first clause: a saved world has the keys of its form and no others, and what stands under a key has its
-- type.
use Rattle.std.specs.Prelude.{ℕ, ◌==◌, ◌&&◌, ◌||◌, Bool, true, List, Option, Some, None, codes, is_some, option_and_then}
use Rattle.serde_json.specs.Data.{Data, Items, no_items, item}
use Rattle.serde_json.specs.Events.{items_len}
use Rattle.serde_json.specs.Find.{as_array, as_bool, as_str, get}
use Rattle.plain_world.specs.declared.kind.Kind.{Kind}
use Rattle.plain_world.specs.declared.kind.Kind.TheVariants.{Static, Kinematic, Dynamic}
use Rattle.world_file_base.specs.Reading.{first_in, has_keys, has_keys_in, is_null, items_in, second_item, text_in, whole_in, whole_of}
use Rattle.world_file_base.specs.SavedBodies.{bare_kind, named_kind}
use Rattle.world_file_base.specs.SavedSlots.{body_key, joint_key, slot_keys}
use Rattle.world_file_base.specs.SavedTotals.{cause_in}
use Rattle.world_file_base.specs.Texts.{handle_of_text, number_of_text}
use Rattle.world_file.specs.Saved.{version_of}

-- ---- lists

-- each item of a list passes the test
abbrev pub all_items : (Data → Bool) → Items → Bool
all_items test no_items = true
all_items test (item d ds) = test d && all_items test ds

-- what is there passes the test
abbrev pub if_there : (Data → Bool) → Option Data → Bool
if_there test None = true
if_there test (Some d) = test d

-- ---- values by themselves

abbrev pub is_list : Option Data → Bool
is_list value = is_some (option_and_then as_array value)

abbrev pub is_pair : Option Data → Bool
is_pair value = is_list value && (items_len (items_in value) == 2)

abbrev pub is_truth : Option Data → Bool
is_truth value = is_some (option_and_then as_bool value)

abbrev pub is_text : Option Data → Bool
is_text value = is_some (option_and_then as_str value)

-- a whole number that 64 bits hold, with a sign or without
abbrev pub is_whole : Option Data → Bool
is_whole value = is_some (whole_of value)

abbrev pub is_whole_or_null : Option Data → Bool
is_whole_or_null value = is_null value || is_whole value

-- two whole numbers: a vector, or the name of a shape
abbrev pub are_two_wholes : Option Data → Bool
are_two_wholes value = is_pair value && is_whole (first_in value) && is_whole (second_item value)

-- two vectors: the ends of a core, or the corners of a box
abbrev pub are_two_vectors : Option Data → Bool
are_two_vectors value = is_pair value && are_two_wholes (first_in value) && are_two_wholes (second_item value)

abbrev pub is_id : Option Data → Bool
is_id value = is_text value && is_some (handle_of_text (text_in value))

-- a whole number of any length, as a text
abbrev pub is_number_text : Option Data → Bool
is_number_text value = is_text value && is_some (number_of_text (text_in value))

-- ---- the ledger

abbrev pub is_total : Option Data → Bool
is_total value = is_pair value && is_number_text (first_in value) && is_number_text (second_item value)

abbrev pub are_totals : Option Data → Bool
are_totals value =
    has_keys_in 6 value
    && is_total (cause_in (codes "command") value)
    && is_total (cause_in (codes "gravity") value)
    && is_total (cause_in (codes "immovable") value)
    && is_total (cause_in (codes "clamp") value)
    && is_total (cause_in (codes "rest") value)
    && is_total (cause_in (codes "departed") value)

-- ---- shapes

-- a circle if there is one, or else a segment, which has no radius
abbrev pub is_round : Option Data → Data → Bool
is_round (Some core) d = are_two_wholes (Some core) && is_whole (get (codes "radius") d) && has_keys 8 d
is_round None d = are_two_vectors (get (codes "segment") d) && has_keys 7 d

-- a capsule if there is one, or else what is round
abbrev pub is_long : Option Data → Data → Bool
is_long (Some core) d = are_two_vectors (Some core) && is_whole (get (codes "radius") d) && has_keys 8 d
is_long None d = is_round (get (codes "circle") d) d

unfoldable pub is_shape : Data → Bool
is_shape d =
    is_long (get (codes "capsule") d) d
    && is_whole (get (codes "friction") d)
    && is_whole (get (codes "restitution") d)
    && is_whole (get (codes "category") d)
    && is_whole (get (codes "mask") d)
    && is_whole (get (codes "group") d)
    && are_two_vectors (get (codes "fat") d)

-- ---- bodies

-- the keys of a body of this kind: a kinematic one has its course beside those of all
abbrev pub has_course : Kind → Data → Bool
has_course Static d = has_keys 13 d
has_course (Kinematic course) d = are_two_wholes (get (codes "velocity") d) && is_whole (get (codes "spin") d) && has_keys 15 d
has_course Dynamic d = has_keys 13 d

unfoldable pub is_kind : Data → Bool
is_kind d = is_text (get (codes "kind") d) && is_some (named_kind (text_in (get (codes "kind") d))) && has_course (bare_kind d) d

unfoldable pub is_motion : Data → Bool
is_motion d =
    are_two_wholes (get (codes "p") d)
    && is_number_text (get (codes "l") d)
    && are_two_wholes (get (codes "at") d)
    && are_two_wholes (get (codes "facing") d)

unfoldable pub is_body : Data → Bool
is_body d =
    is_kind d
    && is_whole (get (codes "mass") d)
    && is_whole (get (codes "inertia") d)
    && is_motion d
    && is_whole_or_null (get (codes "island") d)
    && is_truth (get (codes "loose") d)
    && is_truth (get (codes "asleep") d)
    && is_truth (get (codes "enabled") d)
    && is_whole (get (codes "timer") d)
    && is_list (get (codes "shapes") d)
    && all_items is_shape (items_in (get (codes "shapes") d))

-- ---- joints

unfoldable pub is_joint : Data → Bool
is_joint d =
    has_keys 8 d
    && is_id (get (codes "a") d)
    && is_id (get (codes "b") d)
    && is_truth (get (codes "collide") d)
    && is_whole_or_null (get (codes "colour") d)
    && are_two_wholes (get (codes "from") d)
    && is_whole (get (codes "impulse") d)
    && is_whole (get (codes "length") d)
    && are_two_wholes (get (codes "to") d)

-- ---- slots

-- a slot has its generation, and under this key what is in it
abbrev pub is_slot_form : List ℕ → (Data → Bool) → Data → Bool
is_slot_form key test d =
    is_whole (get (codes "generation") d)
    && has_keys (slot_keys (is_some (get key d))) d
    && if_there test (get key d)

-- ---- contacts

unfoldable pub is_point_form : Data → Bool
is_point_form d =
    has_keys 7 d
    && are_two_wholes (get (codes "normal") d)
    && is_whole (get (codes "sep") d)
    && are_two_wholes (get (codes "ra") d)
    && are_two_wholes (get (codes "rb") d)
    && is_whole (get (codes "push") d)
    && is_whole (get (codes "slip") d)
    && is_whole (get (codes "candidate") d)

unfoldable pub is_contact : Data → Bool
is_contact d =
    has_keys 5 d
    && are_two_wholes (get (codes "a") d)
    && are_two_wholes (get (codes "b") d)
    && is_truth (get (codes "touching") d)
    && is_whole_or_null (get (codes "colour") d)
    && is_list (get (codes "points") d)
    && all_items is_point_form (items_in (get (codes "points") d))

-- ---- the whole

unfoldable pub has_form : Data → Bool
has_form d =
    has_keys 8 d
    && is_whole (get (codes "version") d)
    && is_some (version_of (whole_in (get (codes "version") d)))
    && are_two_wholes (get (codes "gravity") d)
    && is_whole (get (codes "call") d)
    && is_whole (get (codes "step") d)
    && are_totals (get (codes "ledger") d)
    && is_list (get (codes "bodies") d)
    && all_items (is_slot_form body_key is_body) (items_in (get (codes "bodies") d))
    && is_list (get (codes "joints") d)
    && all_items (is_slot_form joint_key is_joint) (items_in (get (codes "joints") d))
    && is_list (get (codes "contacts") d)
    && all_items is_contact (items_in (get (codes "contacts") d))
