-- Trusted: The ties of a world: its joints by slot and its touching contacts by key, each with its movers.
use Rattle.std.specs.Prelude.{ℕ, suc, ◌<◌, ◌^◌, ◌==◌, ◌&&◌, ◌||◌, Bool, true, false, cond, List, [], ◌∷◌, ◌++◌, filter, map, Option, Some, None, option_map, option_and_then}
use Rattle.std.specs.List.{filter_map}
use Rattle.std.specs.Option.{option_map_or}
use Rattle.body_handles.specs.declared.handle.Handle.{Handle}
use Rattle.body_handles.specs.declared.slot_table.SlotEntry.{SlotEntry}
use Rattle.graph_colours.specs.declared.member.Movers.{Movers}
use Rattle.graph_colours.specs.declared.member.Member.{Member}
use Rattle.contacts_base.specs.declared.key.ContactKey.{ContactKey}
use Rattle.contacts_base.specs.declared.contact.ContactEntry.{ContactEntry}
use Rattle.contacts_base.specs.Evaluate.{touches}
use Rattle.plain_world.specs.declared.constraint.Constraint.{Constraint}
use Rattle.plain_world.specs.declared.constraint.Constraint.TheVariants.{Joint, Contact}
use Rattle.plain_world.specs.Constraints.{constraint_number}
use Rattle.sleep_wake.specs.Acting.{Acting}
use Rattle.sleep_wake.specs.declared.change.Change.{Change}
use Rattle.sleep_wake.specs.declared.change.Change.TheVariants.{End}
use Rattle.sleep_wake.specs.Changes.{begins_inserted, begun, ended}
use Rattle.plain_world.specs.declared.body.Body.{Body}
use Rattle.plain_world.specs.declared.joint.BodyJoint.{BodyJoint}
use Rattle.plain_world.specs.Bodies.{moves}
use Rattle.plain_world.specs.Joints.{joint_at}
use Rattle.plain_world.specs.Slots.{body_at}

-- the members of each colour, and of the overflow
abbrev pub Lists : Type 0
Lists = List (List (Member Constraint))

-- the slots of the joints, and the joints in them
pub record JointSlots : Type 0 where
  pub slot_entries : List SlotEntry
  pub joints : List (Option BodyJoint)

abbrev pub slots_of : List SlotEntry → List (Option BodyJoint) → JointSlots
slots_of slot_entries joints = record { slot_entries = slot_entries; joints = joints }

-- ---- movers

abbrev pub is_enabled_in : Option Body → Bool
is_enabled_in body = option_map_or (λ (b : Body). b.enabled) body false

abbrev pub is_enabled : List (Option Body) → ℕ → Bool
is_enabled bodies slot = is_enabled_in (body_at bodies slot)

abbrev pub movers_if : Bool → Bool → ℕ → ℕ → Option Movers
movers_if true true a b = Some (record { first = a; second = Some b })
movers_if true false a b = Some (record { first = a; second = None })
movers_if false true a b = Some (record { first = b; second = None })
movers_if false false a b = None

-- of the bodies in two slots those that are movers: none where neither is, and none where one of the two isn't enabled
abbrev pub movers_with : List (Option Body) → ℕ → ℕ → Option Movers
movers_with bodies a b = cond (is_enabled bodies a && is_enabled bodies b) (movers_if (moves bodies a) (moves bodies b) a b) None

abbrev pub joint_movers : List (Option Body) → BodyJoint → Option Movers
joint_movers bodies j = movers_with bodies j.a j.b

abbrev pub contact_movers : List (Option Body) → ContactKey → Option Movers
contact_movers bodies key = movers_with bodies key.first.slot key.second.slot

abbrev pub tie_with : Constraint → Option Movers → Option (Member Constraint)
tie_with id movers = option_map (λ (m : Movers). record { id = id; movers = m }) movers

-- ---- bonds: what would be a tie if its bodies were enabled and one of them a mover

-- a joint, or a contact that touches: which it is, and the slots of its two bodies
pub record Bond : Type 0 where
  pub id : Constraint
  pub a : ℕ
  pub b : ℕ

abbrev pub joint_bond : Handle → BodyJoint → Bond
joint_bond h j = record { id = Joint h; a = j.a; b = j.b }

abbrev pub contact_bond : ContactKey → Bond
contact_bond key = record { id = Contact key; a = key.first.slot; b = key.second.slot }

-- that of the joint in a slot, if there is one, before those of the slots after it
abbrev pub bond_before : Handle → Option BodyJoint → List Bond → List Bond
bond_before h joint bonds = option_map_or (λ (j : BodyJoint). joint_bond h j ∷ bonds) joint bonds

abbrev pub joint_bonds_from : ℕ → List SlotEntry → List (Option BodyJoint) → List Bond
joint_bonds_from slot [] joints = []
joint_bonds_from slot (p ∷ slot_entries) [] = []
joint_bonds_from slot (p ∷ slot_entries) (o ∷ joints) = bond_before (record { slot = slot; generation = p.generation }) o (joint_bonds_from (suc slot) slot_entries joints)

abbrev pub joint_bonds : JointSlots → List Bond
joint_bonds s = joint_bonds_from 0 s.slot_entries s.joints

abbrev pub touching_keys : List ContactEntry → List ContactKey
touching_keys contacts = map (λ (e : ContactEntry). e.key) (filter (λ (e : ContactEntry). touches e.contact) contacts)

abbrev pub bonds_of : JointSlots → List ContactEntry → List Bond
bonds_of s contacts = joint_bonds s ++ map contact_bond (touching_keys contacts)

abbrev pub is_bond_of : ℕ → Bond → Bool
is_bond_of slot bond = (bond.a == slot) || (bond.b == slot)

-- ---- ties

abbrev pub tie_of : List (Option Body) → Bond → Option (Member Constraint)
tie_of bodies bond = tie_with bond.id (movers_with bodies bond.a bond.b)

abbrev pub ties_in : List (Option Body) → List Bond → List (Member Constraint)
ties_in bodies bonds = filter_map (tie_of bodies) bonds

-- all that act, or would if their movers were awake: joints by slot, then contacts by key
unfoldable pub ties_of : List (Option Body) → JointSlots → List ContactEntry → List (Member Constraint)
ties_of bodies s contacts = ties_in bodies (bonds_of s contacts)

-- those of the body in a slot, be it a mover or not
unfoldable pub ties_at : ℕ → List (Option Body) → JointSlots → List ContactEntry → List (Member Constraint)
ties_at slot bodies s contacts = ties_in bodies (filter (is_bond_of slot) (bonds_of s contacts))

-- those of its joints
unfoldable pub joint_ties_at : ℕ → List (Option Body) → JointSlots → List (Member Constraint)
joint_ties_at slot bodies s = ties_in bodies (filter (is_bond_of slot) (joint_bonds s))

-- ---- the constraints that have a colour, each with its movers

abbrev pub movers_of : List (Option Body) → JointSlots → Constraint → Option Movers
movers_of bodies s (Joint h) = option_and_then (joint_movers bodies) (joint_at s.joints h.slot)
movers_of bodies s (Contact key) = contact_movers bodies key

abbrev pub member_of : List (Option Body) → JointSlots → Constraint → Option (Member Constraint)
member_of bodies s id = tie_with id (movers_of bodies s id)

-- of lists of constraints, one for each colour
unfoldable pub members_of : List (Option Body) → JointSlots → List (List Constraint) → List (List (Member Constraint))
members_of bodies s colours = map (filter_map (member_of bodies s)) colours

-- ---- constraints that begin and end

-- one that begins, if it has movers
abbrev pub begun_with : Constraint → Option Movers → Acting Constraint → Acting Constraint
begun_with id movers s = option_map_or (λ (m : Movers). begun constraint_number (record { id = id; movers = m }) s) movers s

-- one that ends, if it had movers
abbrev pub ended_with : Constraint → Option Movers → Acting Constraint → Acting Constraint
ended_with id movers s = option_map_or (λ (m : Movers). ended constraint_number (record { id = id; movers = m }) s) movers s

-- the contacts with these keys that are ties
abbrev pub key_ties : List (Option Body) → List ContactKey → List (Member Constraint)
key_ties bodies keys = ties_in bodies (map contact_bond keys)

-- the contacts that begin and those that end to touch, in one list that ascends by key
unfoldable pub key_changes : List (Option Body) → List ContactKey → List ContactKey → List (Change Constraint)
key_changes bodies begins ends = begins_inserted constraint_number (key_ties bodies begins) (map (λ m. End m) (key_ties bodies ends))

-- ---- names within their ranges, so that no two constraints have one number

pub record IsKeyWithin (key : ContactKey) : Type 0 where
  pub first : key.first.index < 256
  pub second : key.second.index < 256
  pub slot : key.second.slot < 2 ^ 32

abbrev pub IsConstraintWithin : Constraint → Type 0
IsConstraintWithin (Joint h) = (h.slot < 2 ^ 32) × (h.generation < 2 ^ 32)
IsConstraintWithin (Contact key) = IsKeyWithin key
