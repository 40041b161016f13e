-- Lists that are written item by item: once one of the lists that they are made of has ended, nothing is left.
use Rattle.std.proofs.Common.{◌≡◌, ℕ, ◌≤◌, ◌∷◌, List, [], length, drop, Option, refl, arith, ◌⊎◌, inl, inr}
use Rattle.std.proofs.lemmas.List.{drop_all}
use Rattle.body_handles.specs.declared.slot_table.SlotEntry.{SlotEntry}
use Rattle.fixed_geom.specs.declared.boxes.Box2.{Box2}
use Rattle.islands.specs.Labels.{Labels}
use Rattle.plain_world.specs.declared.body.Body.{Body}
use Rattle.plain_world.specs.declared.joint.BodyJoint.{BodyJoint}
use Rattle.shapes.specs.declared.shape.ShapeDef.{ShapeDef}
use Rattle.world_file_base.specs.SavedShapes.{shapes_of}
use Rattle.world_file_base.specs.SavedSlots.{body_slots, joint_slots}

no_shape : (defs : List ShapeDef) → shapes_of defs [] ≡ []
no_shape [] = refl
no_shape (d ∷ defs) = refl

pub shapes_end : (defs : List ShapeDef) (fats : List Box2) (n k : ℕ) → (length defs ≤ n) ⊎ (length fats ≤ n) → n ≤ k → shapes_of (drop k defs) (drop k fats) ≡ []
shapes_end defs fats n k (inl past) end = rw (drop_all k defs (omega arith)) refl
shapes_end defs fats n k (inr past) end = rw (drop_all k fats (omega arith)) (no_shape (drop k defs))

no_body : (slot : ℕ) (slot_entries : List SlotEntry) (labels : Labels) → body_slots slot slot_entries [] labels ≡ []
no_body slot [] labels = refl
no_body slot (slot_entry ∷ slot_entries) labels = refl

pub bodies_end : (slot_entries : List SlotEntry) (bodies : List (Option Body)) (labels : Labels) (n k : ℕ) → (length slot_entries ≤ n) ⊎ (length bodies ≤ n) → n ≤ k → body_slots k (drop k slot_entries) (drop k bodies) labels ≡ []
bodies_end slot_entries bodies labels n k (inl past) end = rw (drop_all k slot_entries (omega arith)) refl
bodies_end slot_entries bodies labels n k (inr past) end = rw (drop_all k bodies (omega arith)) (no_body k (drop k slot_entries) labels)

no_joint : (all slot_entries : List SlotEntry) (colours : List (Option ℕ)) → joint_slots all slot_entries [] colours ≡ []
no_joint all [] colours = refl
no_joint all (slot_entry ∷ slot_entries) colours = refl

-- each place has a colour
pub joints_end : (all slot_entries : List SlotEntry) (joints : List (Option BodyJoint)) (colours : ℕ → List SlotEntry → List (Option ℕ)) (n k : ℕ) → (length slot_entries ≤ n) ⊎ (length joints ≤ n) → n ≤ k
    → joint_slots all (drop k slot_entries) (drop k joints) (colours k (drop k slot_entries)) ≡ []
joints_end all slot_entries joints colours n k (inl past) end = rw (drop_all k slot_entries (omega arith)) refl
joints_end all slot_entries joints colours n k (inr past) end = rw (drop_all k joints (omega arith)) (no_joint all (drop k slot_entries) (colours k (drop k slot_entries)))
