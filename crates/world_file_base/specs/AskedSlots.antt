-- Inner: what is asked of the slots of bodies and of joints while they are read.
use Rattle.std.specs.Prelude.{ℕ, nat_le, List, [], ◌∷◌, Option, Some, None, codes, is_some, pos, neg_ℤ, unsigned_abs}
use Rattle.serde_json.specs.Data.{Data, Items, no_items, item}
use Rattle.serde_json.specs.Events.{items_len}
use Rattle.serde_json.specs.Find.{get}
use Rattle.world_file_base.specs.Asks.{Ask, all_asked, asked}
use Rattle.world_file_base.specs.Reading.{has_keys, items_in}
use Rattle.world_file_base.specs.AskedValues.{list_asks, whole_asks, signed_asks, truth_asks, vector_within_asks, handle_asks, colour_asks}
use Rattle.world_file_base.specs.declared.clause.Clause.TheVariants.{Form, Generations, Limits}
use Rattle.world_file_base.specs.AskedBodies.{body_asks}
use Rattle.world_file_base.specs.Versions.{most_slots}
use Rattle.world_file_base.specs.declared.version.Version.{Version}
use Rattle.world_file_base.specs.SavedSlots.{generation_of_value, slot_entry_in, slot_keys, is_in_time, body_key, joint_key}
use Rattle.joint_rows.specs.declared.limits.TheConstants.{MAX_ANCHOR, MAX_JOINT_IMPULSE, MAX_JOINT_LENGTH}

abbrev pub generation_asks : Option Data → Ask
generation_asks value reader = asked (is_some (generation_of_value value)) Generations (whole_asks value reader)

unfoldable pub slot_entry_asks : List ℕ → Data → Ask
slot_entry_asks key d = all_asked (
    generation_asks (get (codes "generation") d)
    ∷ asked (has_keys (slot_keys (is_some (get key d))) d) Form
    ∷ asked (is_in_time (slot_entry_in key d)) Generations
    ∷ [])

abbrev pub slots_asks : Version → Option Data → Ask
slots_asks version value reader = asked (nat_le (items_len (items_in value)) (most_slots version)) Limits (list_asks value reader)

abbrev pub item_asks : (Data → Ask) → Option Data → Ask
item_asks f None reader = reader
item_asks f (Some d) reader = f d reader

-- ---- slots of bodies

abbrev pub body_slot_asks : ℕ → Data → Ask
body_slot_asks most_ticks d reader = item_asks (body_asks most_ticks) (get body_key d) (slot_entry_asks body_key d reader)

abbrev pub bodies_asks : ℕ → Items → Ask
bodies_asks most_ticks no_items reader = reader
bodies_asks most_ticks (item d ds) reader = bodies_asks most_ticks ds (body_slot_asks most_ticks d reader)

-- ---- slots of joints

unfoldable pub joint_asks : Version → Data → Ask
joint_asks version d = all_asked (
    asked (has_keys 8 d) Form
    ∷ handle_asks (get (codes "a") d)
    ∷ handle_asks (get (codes "b") d)
    ∷ truth_asks (get (codes "collide") d)
    ∷ colour_asks version (get (codes "colour") d)
    ∷ vector_within_asks (unsigned_abs MAX_ANCHOR) (get (codes "from") d)
    ∷ signed_asks (neg_ℤ MAX_JOINT_IMPULSE) MAX_JOINT_IMPULSE (get (codes "impulse") d)
    ∷ signed_asks (pos 0) MAX_JOINT_LENGTH (get (codes "length") d)
    ∷ vector_within_asks (unsigned_abs MAX_ANCHOR) (get (codes "to") d)
    ∷ [])

abbrev pub joint_slot_asks : Version → Data → Ask
joint_slot_asks version d reader = item_asks (joint_asks version) (get joint_key d) (slot_entry_asks joint_key d reader)

abbrev pub joints_asks : Version → Items → Ask
joints_asks version no_items reader = reader
joints_asks version (item d ds) reader = joints_asks version ds (joint_slot_asks version d reader)
