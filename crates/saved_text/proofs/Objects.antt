-- The members of each object in the order in which they are written.
use Rattle.std.proofs.Common.{◌≡◌, ℕ, ℤ, Bool, ◌++◌, ◌∷◌, List, [], Option, Some, None, codes, refl}
use Rattle.body_handles.specs.declared.slot_table.SlotEntry.{SlotEntry}
use Rattle.contacts_base.specs.declared.contact.ContactEntry.{ContactEntry}
use Rattle.contacts_base.specs.declared.contact.ContactPoint.{ContactPoint}
use Rattle.contacts_base.specs.Evaluate.{touches}
use Rattle.fixed_geom.specs.declared.boxes.Box2.{Box2}
use Rattle.fixed_geom.specs.declared.vectors.Vec2.{Vec2}
use Rattle.impulse_ledger.specs.declared.totals.Totals.{Totals}
use Rattle.islands.specs.declared.label.Label.{Label}
use Rattle.plain_world.specs.Plain.{Plain}
use Rattle.plain_world.specs.declared.body.Body.{Body}
use Rattle.plain_world.specs.declared.joint.BodyJoint.{BodyJoint}
use Rattle.plain_world.specs.declared.kind.Kind.{Kind}
use Rattle.plain_world.specs.declared.kind.Kind.TheVariants.{Static, Kinematic, Dynamic}
use Rattle.world_file_base.specs.SavedBodies.{body_data, put_numbers}
use Rattle.world_file_base.specs.SavedContacts.{contact_data, contact_members, contacts_data, each_point, point_data, point_members}
use Rattle.world_file_base.specs.SavedJoints.{handle_at, joint_data, joint_members}
use Rattle.world_file_base.specs.SavedShapes.{shape_of, shapes_of}
use Rattle.world_file_base.specs.SavedSlots.{bodies_data, body_slot_of, joint_slot_of, joints_data, slot_of}
use Rattle.world_file_base.specs.SavedTotals.{totals_data, totals_members}
use Rattle.world_file_base.specs.Written.{corners_of, ends_of, integer, list_data, natural, vector_of}
use Rattle.shapes.specs.declared.shape.Shape.TheVariants.{Circle, Capsule, Segment}
use Rattle.shapes.specs.declared.shape.ShapeDef.{ShapeDef}
use Rattle.world_file.specs.Files.{contact_colours, joint_colours, value_of, world_members}
use Rattle.saved_text.specs.Bodies.{first_of_body, last_of_body, membership_by}
use Rattle.saved_text.specs.Tokens.{IsObject}
use Rattle.saved_text.specs.declared.bodies.SavedMembership.{SavedMembership}

-- ---- shapes

pub circle_object : (def : ShapeDef) (fat : Box2) (center : Vec2) (radius : ℤ) → def.shape ≡ Circle center radius → IsObject (
    (codes "category", natural def.filter.category)
    ∷ (codes "circle", vector_of center)
    ∷ (codes "fat", corners_of fat)
    ∷ (codes "friction", integer def.friction)
    ∷ (codes "group", integer def.filter.group)
    ∷ (codes "mask", natural def.filter.mask)
    ∷ (codes "radius", integer radius)
    ∷ (codes "restitution", integer def.restitution)
    ∷ []) (shape_of def fat)
unfolding shape_of
circle_object def fat center radius is = record { is = rw is refl; ascends = refl }

pub capsule_object : (def : ShapeDef) (fat : Box2) (first second : Vec2) (radius : ℤ) → def.shape ≡ Capsule first second radius → IsObject (
    (codes "capsule", ends_of first second)
    ∷ (codes "category", natural def.filter.category)
    ∷ (codes "fat", corners_of fat)
    ∷ (codes "friction", integer def.friction)
    ∷ (codes "group", integer def.filter.group)
    ∷ (codes "mask", natural def.filter.mask)
    ∷ (codes "radius", integer radius)
    ∷ (codes "restitution", integer def.restitution)
    ∷ []) (shape_of def fat)
unfolding shape_of
capsule_object def fat first second radius is = record { is = rw is refl; ascends = refl }

pub segment_object : (def : ShapeDef) (fat : Box2) (first second : Vec2) → def.shape ≡ Segment first second → IsObject (
    (codes "category", natural def.filter.category)
    ∷ (codes "fat", corners_of fat)
    ∷ (codes "friction", integer def.friction)
    ∷ (codes "group", integer def.filter.group)
    ∷ (codes "mask", natural def.filter.mask)
    ∷ (codes "restitution", integer def.restitution)
    ∷ (codes "segment", ends_of first second)
    ∷ []) (shape_of def fat)
unfolding shape_of
segment_object def fat first second is = record { is = rw is refl; ascends = refl }

-- ---- bodies

body_by : (b : Body) (label : Option Label) (kind : Kind) → b.kind ≡ kind → IsObject (first_of_body b (membership_by label) ++ ((codes "shapes", list_data (shapes_of b.shapes b.fats)) ∷ []) ++ last_of_body kind b.timer) (body_data b label)
unfolding body_data put_numbers
body_by b None Static is = record { is = rw is refl; ascends = refl }
body_by b None (Kinematic course) is = record { is = rw is refl; ascends = refl }
body_by b None Dynamic is = record { is = rw is refl; ascends = refl }
body_by b (Some l) Static is = record { is = rw is refl; ascends = refl }
body_by b (Some l) (Kinematic course) is = record { is = rw is refl; ascends = refl }
body_by b (Some l) Dynamic is = record { is = rw is refl; ascends = refl }

pub body_object : (b : Body) (label : Option Label) (membership : SavedMembership) → membership ≡ membership_by label → IsObject (first_of_body b membership ++ ((codes "shapes", list_data (shapes_of b.shapes b.fats)) ∷ []) ++ last_of_body b.kind b.timer) (body_data b label)
body_object b label membership is = rw is (body_by b label b.kind refl)

pub free_object : (slot_entry : SlotEntry) → IsObject ((codes "generation", natural slot_entry.generation) ∷ []) (slot_of slot_entry [] None)
free_object slot_entry = record { is = refl; ascends = refl }

pub body_slot_object : (slot_entry : SlotEntry) (b : Body) (label : Option Label) → IsObject ((codes "body", body_data b label) ∷ (codes "generation", natural slot_entry.generation) ∷ []) (body_slot_of slot_entry (Some b) label)
body_slot_object slot_entry b label = record { is = refl; ascends = refl }

-- ---- contacts

pub point_object : (p : ContactPoint) → IsObject (point_members p) (point_data p)
unfolding point_data
point_object p = record { is = refl; ascends = refl }

pub contact_object : (e : ContactEntry) (colour : Option ℕ) (touching : Bool) → touching ≡ touches e.contact → IsObject (contact_members e.key.first e.key.second colour (each_point e.contact) touching) (contact_data e colour)
unfolding contact_data
contact_object e colour touching is = rw is (record { is = refl; ascends = refl })

-- ---- joints

pub joint_object : (slot_entries : List SlotEntry) (j : BodyJoint) (colour : Option ℕ) → IsObject (joint_members (handle_at slot_entries j.a) (handle_at slot_entries j.b) j.collide colour j.joint) (joint_data slot_entries j colour)
unfolding joint_data
joint_object slot_entries j colour = record { is = refl; ascends = refl }

pub joint_slot_object : (slot_entries : List SlotEntry) (slot_entry : SlotEntry) (j : BodyJoint) (colour : Option ℕ) → IsObject ((codes "generation", natural slot_entry.generation) ∷ (codes "joint", joint_data slot_entries j colour) ∷ []) (joint_slot_of slot_entries slot_entry (Some j) colour)
joint_slot_object slot_entries slot_entry j colour = record { is = refl; ascends = refl }

-- ---- the world

pub totals_object : (t : Totals) → IsObject (totals_members t) (totals_data t)
totals_object t = record { is = refl; ascends = refl }

pub world_object : (p : Plain) (t : Totals) → IsObject (world_members (bodies_data p.slot_entries p.bodies p.islands) p.calls (contacts_data p.contacts (contact_colours p.colours p.contacts)) p.gravity (joints_data p.slot_entries p.joint_entries p.joints (joint_colours p.colours 0 p.joint_entries)) t p.steps) (value_of p t)
unfolding value_of
world_object p t = record { is = refl; ascends = refl }
