-- Trusted: The slots of bodies and of joints.
use Rattle.std.specs.Prelude.{ℕ, suc, ◌||◌, Bool, false, not, cond, nat_lt, List, [], ◌∷◌, Option, Some, None, codes, is_some, option_and_then, option_map, unwrap_or, ℤ}
use Rattle.serde_json.specs.Data.{Data, Items, no_items, item, Members, no_members, object, put}
use Rattle.serde_json.specs.Find.{get}
use Rattle.body_handles.specs.declared.slot_table.SlotEntry.{SlotEntry}
use Rattle.body_handles.specs.declared.slot_table.TheConstants.{WORN_OUT}
use Rattle.islands.specs.Labels.{Labels, label_at}
use Rattle.islands.specs.declared.label.Label.{Label}
use Rattle.plain_world.specs.declared.body.Body.{Body}
use Rattle.plain_world.specs.declared.joint.BodyJoint.{BodyJoint}
use Rattle.world_file_base.specs.Reading.{natural_of, whole_in}
use Rattle.world_file_base.specs.Written.{list_data, natural, with_members}
use Rattle.world_file_base.specs.SavedBodies.{body_in, body_data, membership_in}
use Rattle.world_file_base.specs.SavedJoints.{joint_in, joint_data}
use Rattle.world_file_base.specs.declared.saved.Membership.{Membership}
use Rattle.world_file_base.specs.declared.saved.SavedJoint.{SavedJoint}
use Rattle.world_file_base.specs.declared.version.Version.{Version}

-- ---- a slot

abbrev pub positive : ℕ → Option ℕ
positive n = cond (nat_lt 0 n) (Some n) None

-- 1 to the last one
abbrev pub generation_of_number : ℤ → Option ℕ
generation_of_number z = option_and_then positive (natural_of WORN_OUT z)

abbrev pub generation_of_value : Option Data → Option ℕ
generation_of_value value = generation_of_number (whole_in value)

abbrev pub generation_in : Option Data → ℕ
generation_in value = unwrap_or (generation_of_value value) 1

-- what is under the key of a slot's item
unfoldable pub slot_entry_in : List ℕ → Data → SlotEntry
slot_entry_in key d = record { generation = generation_in (get (codes "generation") d); live = is_some (get key d) }

abbrev pub slot_keys : Bool → ℕ
slot_keys live = cond live 2 1

-- nothing is in a slot at its last generation
abbrev pub is_in_time : SlotEntry → Bool
is_in_time place = not place.live || nat_lt place.generation WORN_OUT

abbrev pub slot_entries_in : List ℕ → Items → List SlotEntry
slot_entries_in key no_items = []
slot_entries_in key (item d ds) = slot_entry_in key d ∷ slot_entries_in key ds

-- ---- slots of bodies

abbrev pub body_key : List ℕ
body_key = codes "body"

abbrev pub slot_body : ℕ → Data → Option Body
slot_body most_ticks d = option_map (body_in most_ticks) (get body_key d)

abbrev pub no_membership : Membership
no_membership = record { island = None; loose = false; asleep = false }

abbrev pub membership_or_none : Option Data → Membership
membership_or_none value = unwrap_or (option_map membership_in value) no_membership

abbrev pub slot_membership : Data → Membership
slot_membership d = membership_or_none (get body_key d)

abbrev pub bodies_in : ℕ → Items → List (Option Body)
bodies_in most_ticks no_items = []
bodies_in most_ticks (item d ds) = slot_body most_ticks d ∷ bodies_in most_ticks ds

abbrev pub memberships_in : Items → List Membership
memberships_in no_items = []
memberships_in (item d ds) = slot_membership d ∷ memberships_in ds

-- ---- slots of joints

abbrev pub joint_key : List ℕ
joint_key = codes "joint"

abbrev pub slot_joint : Version → Data → Option SavedJoint
slot_joint version d = option_map (joint_in version) (get joint_key d)

abbrev pub joints_in : Version → Items → List (Option SavedJoint)
joints_in version no_items = []
joints_in version (item d ds) = slot_joint version d ∷ joints_in version ds

-- ---- how they are written

abbrev pub put_item : List ℕ → Option Data → Members → Members
put_item key None ms = ms
put_item key (Some d) ms = put key d ms

-- a slot, with what is in it
abbrev pub slot_of : SlotEntry → List ℕ → Option Data → Data
slot_of place key content = object (with_members ((codes "generation", natural place.generation) ∷ []) (put_item key content no_members))

abbrev pub body_slot_of : SlotEntry → Option Body → Option Label → Data
body_slot_of place entry label = slot_of place body_key (option_map (λ b. body_data b label) entry)

-- the slots from this one on
abbrev pub body_slots : ℕ → List SlotEntry → List (Option Body) → Labels → List Data
body_slots slot [] bodies labels = []
body_slots slot (place ∷ slot_entries) [] labels = []
body_slots slot (place ∷ slot_entries) (entry ∷ bodies) labels = body_slot_of place entry (label_at labels slot) ∷ body_slots (suc slot) slot_entries bodies labels

abbrev pub bodies_data : List SlotEntry → List (Option Body) → Labels → Data
bodies_data slot_entries bodies labels = list_data (body_slots 0 slot_entries bodies labels)

abbrev pub joint_slot_of : List SlotEntry → SlotEntry → Option BodyJoint → Option ℕ → Data
joint_slot_of slot_entries place entry colour = slot_of place joint_key (option_map (λ j. joint_data slot_entries j colour) entry)

-- joints between bodies of these places, each with its colour
abbrev pub joint_slots : List SlotEntry → List SlotEntry → List (Option BodyJoint) → List (Option ℕ) → List Data
joint_slots slot_entries [] joints colours = []
joint_slots slot_entries (place ∷ rest) [] colours = []
joint_slots slot_entries (place ∷ rest) (entry ∷ joints) [] = []
joint_slots slot_entries (place ∷ rest) (entry ∷ joints) (colour ∷ colours) = joint_slot_of slot_entries place entry colour ∷ joint_slots slot_entries rest joints colours

abbrev pub joints_data : List SlotEntry → List SlotEntry → List (Option BodyJoint) → List (Option ℕ) → Data
joints_data slot_entries joint_entries joints colours = list_data (joint_slots slot_entries joint_entries joints colours)
