-- The names under which bodies, joints and contacts sleep: what ties two bodies sleeps with the first of them that is a
-- mover.
use Rattle.std.specs.Prelude.{◌≡◌, ℕ, ◌<◌, ◌≤◌, ◌==◌, ◌||◌, Bool, true, false, cond, Contains, List, length, Option, Some, None, is_some}
use Rattle.contacts.specs.Numbered.{contact_at}
use Rattle.contacts.specs.declared.number_book.NumberedContact.{NumberedContact}
use Rattle.graph_colours.specs.declared.member.Movers.{Movers}
use Rattle.plain_world.specs.declared.body.Body.{Body}
use Rattle.plain_world.specs.declared.joint.BodyJoint.{BodyJoint}
use Rattle.plain_world.specs.Bodies.{is_mover_in, moves}
use Rattle.plain_world.specs.Joints.{is_end_in, joint_at}
use Rattle.plain_world.specs.Slots.{body_at}
use Rattle.solver_sets.specs.Ties.{contact_movers, is_enabled_in, joint_movers}
use Rattle.world_core_base.specs.Sleeping.{Sleeping, sleep_at}

-- ---- bodies

-- the name under which a body sleeps, if one is there and does
abbrev pub asleep_in : Option Body → Option ℕ
asleep_in None = None
asleep_in (Some b) = b.asleep

abbrev pub asleep_under : List (Option Body) → ℕ → Option ℕ
asleep_under bodies slot = asleep_in (body_at bodies slot)

-- whoever sleeps does so under the name of a body's slot
abbrev pub AreNamedAsleep : List (Option Body) → Type 0
AreNamedAsleep bodies = (slot name : ℕ) → moves bodies slot ≡ true → asleep_under bodies slot ≡ Some name → name < length bodies

-- enabled or not as it was, and a mover or none, which sleeps as it did
pub record IsSleepAlike (o p : Option Body) : Type 0 where
  pub enabled : is_enabled_in p ≡ is_enabled_in o
  pub mover : is_mover_in p ≡ is_mover_in o
  pub asleep : is_mover_in o ≡ true → asleep_in p ≡ asleep_in o

abbrev pub SleepAlike : List (Option Body) → List (Option Body) → Type 0
SleepAlike old new = (slot : ℕ) → IsSleepAlike (body_at old slot) (body_at new slot)

-- ---- what ties two bodies

-- the name under which what has these movers sleeps, if it does
abbrev pub sleep_with : List (Option Body) → Option Movers → Option ℕ
sleep_with bodies None = None
sleep_with bodies (Some m) = asleep_under bodies m.first

-- ---- joints

abbrev pub movers_of_joint : List (Option Body) → Option BodyJoint → Option Movers
movers_of_joint bodies None = None
movers_of_joint bodies (Some j) = joint_movers bodies j

-- the name under which the joint in a slot sleeps
abbrev pub joint_sleep : List (Option Body) → List (Option BodyJoint) → ℕ → Option ℕ
joint_sleep bodies joints slot = sleep_with bodies (movers_of_joint bodies (joint_at joints slot))

-- the sets have each joint that sleeps, by its slot, and nothing else; there is room for each joint, and for the name of
-- each body's slot
pub record AreJointSets (bodies : List (Option Body)) (joints : List (Option BodyJoint)) (sets : Sleeping) : Type 0 where
  pub asleep : (slot : ℕ) → sleep_at sets.names slot ≡ joint_sleep bodies joints slot
  pub items : (slot : ℕ) → is_some (joint_at joints slot) ≡ true → slot < length sets.names
  pub named : length bodies ≤ length sets.sets

-- no body in these slots is an end of the joint
abbrev pub IsOfNone : List ℕ → Option BodyJoint → Type 0
IsOfNone slots o = (slot : ℕ) → Contains slots slot → is_end_in slot o ≡ false

-- ---- contacts

-- those of one that touches
abbrev pub movers_of_contact : List (Option Body) → Option NumberedContact → Option Movers
movers_of_contact bodies None = None
movers_of_contact bodies (Some c) = cond c.touching (contact_movers bodies c.key) None

-- the name under which the contact with a number sleeps
abbrev pub contact_sleep : List (Option Body) → List (Option NumberedContact) → ℕ → Option ℕ
contact_sleep bodies numbered number = sleep_with bodies (movers_of_contact bodies (contact_at numbered number))

-- the sets have each contact that sleeps, by its number, and nothing else; there is room for each contact, and for the
-- name of each body's slot
pub record AreContactSets (bodies : List (Option Body)) (numbered : List (Option NumberedContact)) (sets : Sleeping) : Type 0 where
  pub asleep : (number : ℕ) → sleep_at sets.names number ≡ contact_sleep bodies numbered number
  pub items : (number : ℕ) → is_some (contact_at numbered number) ≡ true → number < length sets.names
  pub named : length bodies ≤ length sets.sets

-- the body in a slot is an end of the contact
abbrev pub is_contact_end : ℕ → Option NumberedContact → Bool
is_contact_end slot None = false
is_contact_end slot (Some c) = (c.key.first.slot == slot) || (c.key.second.slot == slot)

-- no body in these slots is an end of the contact
abbrev pub IsContactOfNone : List ℕ → Option NumberedContact → Type 0
IsContactOfNone slots o = (slot : ℕ) → Contains slots slot → is_contact_end slot o ≡ false
