-- Inner: what laws of the ties ask of bodies, joints and contacts, and what a change leaves alike.
use Rattle.std.specs.Prelude.{◌≡◌, ℕ, ◌==◌, true, false, List, Option, Some, None, All, map}
use Rattle.body_handles.specs.SlotEntries.{IsSlotEntry}
use Rattle.contacts_base.specs.declared.contact.ContactEntry.{ContactEntry}
use Rattle.islands.specs.Labels.{Labels, label_at, sleeping_name}
use Rattle.plain_world.specs.declared.body.Body.{Body}
use Rattle.plain_world.specs.declared.joint.BodyJoint.{BodyJoint}
use Rattle.plain_world.specs.Bodies.{is_mover, moves}
use Rattle.plain_world.specs.Slots.{AreMatched, body_at}
use Rattle.solver_sets.specs.Ties.{JointSlots, is_enabled}
use Rattle.solver_sets.specs.Tied.{AreTied}

-- ---- bodies and labels

-- and each body sleeps just if its label does, under that name
pub record AreTiedAndTold (bodies : List (Option Body)) (labels : Labels) : Type 0 where
  pub tied : AreTied bodies labels
  pub asleep : (slot : ℕ) (b : Body) → body_at bodies slot ≡ Some b → b.asleep ≡ sleeping_name (label_at labels slot)

-- what isn't a mover doesn't sleep
abbrev pub OnlyMoversSleep : List (Option Body) → Type 0
OnlyMoversSleep bodies = (slot : ℕ) (b : Body) → body_at bodies slot ≡ Some b → is_mover b ≡ false → b.asleep ≡ None

-- ---- bodies before and after

-- the same slots have enabled bodies, and movers
pub record AreAlike (old new : List (Option Body)) : Type 0 where
  pub enabled : (slot : ℕ) → is_enabled new slot ≡ is_enabled old slot
  pub movers : (slot : ℕ) → moves new slot ≡ moves old slot

-- all slots but one
pub record AreAlikeBeside (slot : ℕ) (old new : List (Option Body)) : Type 0 where
  pub enabled : (other : ℕ) → (slot == other) ≡ false → is_enabled new other ≡ is_enabled old other
  pub movers : (other : ℕ) → (slot == other) ≡ false → moves new other ≡ moves old other

-- ---- joints

-- there is a joint just in the slots that are taken, and their generations are within their range
pub record AreJointSlots (s : JointSlots) : Type 0 where
  pub matched : AreMatched s.slot_entries s.joints
  pub slot_entries : All IsSlotEntry s.slot_entries

-- the bodies at a joint's ends
abbrev pub ends_in : Option BodyJoint → Option (ℕ × ℕ)
ends_in None = None
ends_in (Some j) = Some (j.a, j.b)

-- the same joints, apart from their impulses
abbrev pub HaveSameEnds : List (Option BodyJoint) → List (Option BodyJoint) → Type 0
HaveSameEnds old new = map ends_in new ≡ map ends_in old

-- ---- contacts

-- both bodies of the contact are enabled
pub record IsBetweenEnabled (bodies : List (Option Body)) (e : ContactEntry) : Type 0 where
  pub first : is_enabled bodies e.key.first.slot ≡ true
  pub second : is_enabled bodies e.key.second.slot ≡ true
