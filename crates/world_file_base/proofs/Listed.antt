-- Lists that are written item by item: once one of the lists that they are made of has ended, nothing is left.
use Rattle.std.proofs.Common.{◌≡◌, ℕ, ◌<◌, ◌≤◌, ◌++◌, ◌∷◌, false, List, [], length, drop, Option, refl, sym, ap, ◌∙◌, arith, ◌⊎◌, inl, inr}
use Rattle.std.proofs.lemmas.List.{append-nil, drop_all, length-drop}
use Rattle.serde_json.specs.Data.{Data}
use Rattle.body_handles.specs.declared.slot_table.SlotEntry.{SlotEntry}
use Rattle.contacts_base.specs.declared.contact.ContactEntry.{ContactEntry}
use Rattle.fixed_geom.specs.declared.boxes.Box2.{Box2}
use Rattle.islands.specs.Labels.{Labels}
use Rattle.plain_world.specs.declared.body.Body.{Body}
use Rattle.plain_world.specs.declared.joint.BodyJoint.{BodyJoint}
use Rattle.shapes.specs.declared.pose.Pose.{Pose}
use Rattle.shapes.specs.declared.shape.ShapeDef.{ShapeDef}
use Rattle.world_file_base.specs.SavedBodies.{are_in_boxes}
use Rattle.world_file_base.specs.SavedContacts.{each_contact}
use Rattle.world_file_base.specs.SavedShapes.{shapes_of}
use Rattle.world_file_base.specs.SavedSlots.{body_slots, joint_slots}

-- what was written is all, where nothing is left
all_written : (items left whole : List Data) → left ≡ [] → items ++ left ≡ whole → items ≡ whole
all_written items left whole none all = sym (append-nil items) ∙ ap (λ rest. items ++ rest) (sym none) ∙ all

no_contact : (contacts : List ContactEntry) → each_contact contacts [] ≡ []
no_contact [] = refl
no_contact (e ∷ contacts) = refl

contacts_end : (contacts : List ContactEntry) (colours : List (Option ℕ)) (n k : ℕ) → (length contacts ≤ n) ⊎ (length colours ≤ n) → n ≤ k → each_contact (drop k contacts) (drop k colours) ≡ []
contacts_end contacts colours n k (inl past) end = rw (drop_all k contacts (omega arith)) refl
contacts_end contacts colours n k (inr past) end = rw (drop_all k colours (omega arith)) (no_contact (drop k contacts))

pub contacts_written : (items : List Data) (contacts : List ContactEntry) (colours : List (Option ℕ)) (n k : ℕ) → (length contacts ≤ n) ⊎ (length colours ≤ n) → n ≤ k
    → items ++ each_contact (drop k contacts) (drop k colours) ≡ each_contact contacts colours → items ≡ each_contact contacts colours
contacts_written items contacts colours n k one end = all_written items (each_contact (drop k contacts) (drop k colours)) (each_contact contacts colours) (contacts_end contacts colours n k one end)

no_shape : (defs : List ShapeDef) → shapes_of defs [] ≡ []
no_shape [] = refl
no_shape (d ∷ defs) = refl

shapes_end : (defs : List ShapeDef) (fats : List Box2) (n k : ℕ) → (length defs ≤ n) ⊎ (length fats ≤ n) → n ≤ k → shapes_of (drop k defs) (drop k fats) ≡ []
shapes_end defs fats n k (inl past) end = rw (drop_all k defs (omega arith)) refl
shapes_end defs fats n k (inr past) end = rw (drop_all k fats (omega arith)) (no_shape (drop k defs))

pub shapes_written : (items : List Data) (defs : List ShapeDef) (fats : List Box2) (n k : ℕ) → (length defs ≤ n) ⊎ (length fats ≤ n) → n ≤ k
    → items ++ shapes_of (drop k defs) (drop k fats) ≡ shapes_of defs fats → items ≡ shapes_of defs fats
shapes_written items defs fats n k one end = all_written items (shapes_of (drop k defs) (drop k fats)) (shapes_of defs fats) (shapes_end defs fats n k one end)

no_body : (slot : ℕ) (slot_entries : List SlotEntry) (labels : Labels) → body_slots slot slot_entries [] labels ≡ []
no_body slot [] labels = refl
no_body slot (slot_entry ∷ slot_entries) labels = refl

bodies_end : (slot_entries : List SlotEntry) (bodies : List (Option Body)) (labels : Labels) (n k : ℕ) → (length slot_entries ≤ n) ⊎ (length bodies ≤ n) → n ≤ k → body_slots k (drop k slot_entries) (drop k bodies) labels ≡ []
bodies_end slot_entries bodies labels n k (inl past) end = rw (drop_all k slot_entries (omega arith)) refl
bodies_end slot_entries bodies labels n k (inr past) end = rw (drop_all k bodies (omega arith)) (no_body k (drop k slot_entries) labels)

pub bodies_written : (items : List Data) (slot_entries : List SlotEntry) (bodies : List (Option Body)) (labels : Labels) (n k : ℕ) → (length slot_entries ≤ n) ⊎ (length bodies ≤ n) → n ≤ k
    → items ++ body_slots k (drop k slot_entries) (drop k bodies) labels ≡ body_slots 0 slot_entries bodies labels → items ≡ body_slots 0 slot_entries bodies labels
bodies_written items slot_entries bodies labels n k one end =
    all_written items (body_slots k (drop k slot_entries) (drop k bodies) labels) (body_slots 0 slot_entries bodies labels) (bodies_end slot_entries bodies labels n k one end)

no_joint : (all slot_entries : List SlotEntry) (colours : List (Option ℕ)) → joint_slots all slot_entries [] colours ≡ []
no_joint all [] colours = refl
no_joint all (slot_entry ∷ slot_entries) colours = refl

no_colour : (all slot_entries : List SlotEntry) (joints : List (Option BodyJoint)) → joint_slots all slot_entries joints [] ≡ []
no_colour all [] joints = refl
no_colour all (slot_entry ∷ slot_entries) [] = refl
no_colour all (slot_entry ∷ slot_entries) (j ∷ joints) = refl

joints_end : (all slot_entries : List SlotEntry) (joints : List (Option BodyJoint)) (colours : List (Option ℕ)) (m n k : ℕ) → (length slot_entries ≤ m) ⊎ (length joints ≤ m) → (m ≤ n) ⊎ (length colours ≤ n) → n ≤ k
    → joint_slots all (drop k slot_entries) (drop k joints) (drop k colours) ≡ []
joints_end all slot_entries joints colours m n k first (inr past) end = rw (drop_all k colours (omega arith)) (no_colour all (drop k slot_entries) (drop k joints))
joints_end all slot_entries joints colours m n k (inl past) (inl less) end = rw (drop_all k slot_entries (omega arith)) refl
joints_end all slot_entries joints colours m n k (inr past) (inl less) end = rw (drop_all k joints (omega arith)) (no_joint all (drop k slot_entries) (drop k colours))

pub joints_written : (items : List Data) (all slot_entries : List SlotEntry) (joints : List (Option BodyJoint)) (colours : List (Option ℕ)) (m n k : ℕ)
    → (length slot_entries ≤ m) ⊎ (length joints ≤ m) → (m ≤ n) ⊎ (length colours ≤ n) → n ≤ k
    → items ++ joint_slots all (drop k slot_entries) (drop k joints) (drop k colours) ≡ joint_slots all slot_entries joints colours → items ≡ joint_slots all slot_entries joints colours
joints_written items all slot_entries joints colours m n k first second end =
    all_written items (joint_slots all (drop k slot_entries) (drop k joints) (drop k colours)) (joint_slots all slot_entries joints colours) (joints_end all slot_entries joints colours m n k first second end)

-- a shape without a fat box isn't in one
boxless : (pose : Pose) (defs : List ShapeDef) → 0 < length defs → are_in_boxes pose defs [] ≡ false
boxless pose [] some = absurd (omega arith)
boxless pose (d ∷ defs) some = refl

pub no_box : (pose : Pose) (defs : List ShapeDef) (fats : List Box2) (k : ℕ) → k < length defs → length fats ≤ k → are_in_boxes pose (drop k defs) (drop k fats) ≡ false
no_box pose defs fats k within past = rw (drop_all k fats past) (boxless pose (drop k defs) (omega (arith, length-drop k defs)))
