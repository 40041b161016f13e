-- The constraints of a world, and how a source tells them: joints by slot, and contacts by number.
use Rattle.std.specs.Prelude.{Contains, ◌≡◌, ◌≢◌, ℕ, Bool, List, Option, Some, None, cond, slice_get, map, filter}
use Rattle.body_handles.specs.declared.slot_table.SlotEntry.{SlotEntry}
use Rattle.plain_world.specs.declared.constraint.Constraint.{Constraint}
use Rattle.plain_world.specs.declared.constraint.Constraint.TheVariants.{Joint, Contact}
use Rattle.contacts.specs.declared.number_book.NumberedContact.{NumberedContact}
use Rattle.contacts.specs.Numbered.{contact_at}
use Rattle.contacts_base.specs.declared.contact.ContactEntry.{ContactEntry}
use Rattle.contacts_base.specs.Contacts.{AreKeysRising}
use Rattle.graph_colours.specs.declared.member.Member.{Member}
use Rattle.world_core_base.specs.Sleeping.{Sleeping}
use Rattle.plain_world.specs.declared.body.Body.{Body}
use Rattle.plain_world.specs.declared.joint.BodyJoint.{BodyJoint}
use Rattle.plain_world.specs.Joints.{joint_at}
use Rattle.sleep_wake.specs.Sources.{is_first}
use Rattle.solver_sets.specs.Alike.{AreJointSlots}
use Rattle.solver_sets.specs.Ties.{JointSlots, contact_bond, contact_movers, is_bond_of, joint_bonds, joint_movers, tie_with, ties_in, touching_keys}
use Rattle.world_core_base.specs.Asleep.{AreContactSets, AreJointSets}

-- what a source reads
pub record Told : Type 0 where
  pub bodies : List (Option Body)
  pub slots : JointSlots
  pub contacts : List ContactEntry

-- ---- one constraint

-- the tie of the joint in a slot, with the entry of the slot
abbrev pub tie_of_joint : List (Option Body) → ℕ → Option SlotEntry → Option BodyJoint → Option (Member Constraint)
tie_of_joint bodies slot None o = None
tie_of_joint bodies slot (Some p) None = None
tie_of_joint bodies slot (Some p) (Some j) = tie_with (Joint (record { slot = slot; generation = p.generation })) (joint_movers bodies j)

abbrev pub joint_tie_in : List (Option Body) → JointSlots → ℕ → Option (Member Constraint)
joint_tie_in bodies s slot = tie_of_joint bodies slot (slice_get s.slot_entries slot) (joint_at s.joints slot)

-- the tie of a contact, if it touches
abbrev pub tie_of_contact : List (Option Body) → Option NumberedContact → Option (Member Constraint)
tie_of_contact bodies None = None
tie_of_contact bodies (Some c) = cond c.touching (tie_with (Contact c.key) (contact_movers bodies c.key)) None

abbrev pub contact_tie_in : List (Option Body) → List (Option NumberedContact) → ℕ → Option (Member Constraint)
contact_tie_in bodies numbered number = tie_of_contact bodies (contact_at numbered number)

-- what passes a test
abbrev pub kept : {X : Type 0} → (X → Bool) → Option X → Option X
kept p None = None
kept p (Some x) = cond (p x) (Some x) None

-- the tie, if the mover in the slot is its first
abbrev pub if_first : ℕ → Option (Member Constraint) → Option (Member Constraint)
if_first slot o = kept (is_first slot) o

-- ---- many

-- those of all joints, and of all contacts
abbrev pub all_joint_ties : List (Option Body) → JointSlots → List (Member Constraint)
all_joint_ties bodies s = ties_in bodies (joint_bonds s)

abbrev pub all_contact_ties : List (Option Body) → List ContactEntry → List (Member Constraint)
all_contact_ties bodies contacts = ties_in bodies (map contact_bond (touching_keys contacts))

-- the contacts of the body in a slot that are ties, by key
unfoldable pub contact_ties_at : ℕ → List (Option Body) → List ContactEntry → List (Member Constraint)
contact_ties_at slot bodies contacts = ties_in bodies (filter (is_bond_of slot) (map contact_bond (touching_keys contacts)))

-- ---- what is kept

-- no joint has one body at both ends
abbrev pub JoinTwo : List (Option BodyJoint) → Type 0
JoinTwo joints = (slot : ℕ) (j : BodyJoint) → joint_at joints slot ≡ Some j → j.a ≢ j.b

-- no contact is of one body alone
abbrev pub AreOfTwo : List ContactEntry → Type 0
AreOfTwo contacts = (e : ContactEntry) → Contains contacts e → e.key.first.slot ≢ e.key.second.slot

-- the joints are in slots of theirs, each between two bodies; the contacts ascend by key, and each is of two bodies
pub record CanTell (s : JointSlots) (contacts : List ContactEntry) : Type 0 where
  pub slots : AreJointSlots s
  pub joined : JoinTwo s.joints
  pub rising : AreKeysRising contacts
  pub two : AreOfTwo contacts

-- and the sets have the joints and the contacts that sleep
pub record IsTelling (bodies : List (Option Body)) (s : JointSlots) (joint_sets : Sleeping) (contacts : List ContactEntry) (numbered : List (Option NumberedContact)) (contact_sets : Sleeping) : Type 0 where
  pub can : CanTell s contacts
  pub joints_standing : AreJointSets bodies s.joints joint_sets
  pub contacts_standing : AreContactSets bodies numbered contact_sets
