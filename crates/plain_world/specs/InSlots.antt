-- Trusted: bodies and joints in their slots: who is there, what is put there, and what stays the same.
use Rattle.std.specs.Prelude.{Bool, false, Option, Some, None, ◌≡◌, ℕ, List, length, is_some, ◌≤◌, slice_get, ℤ, slice_set}
use Rattle.shapes.specs.Poses.{IsPose}
use Rattle.shapes.specs.declared.pose.Pose.{Pose}
use Rattle.plain_world.specs.declared.body.Body.{Body}
use Rattle.plain_world.specs.Bodies.{IsBody, is_carried}
use Rattle.plain_world.specs.Slots.{body_at, shapes_in}
use Rattle.plain_world.specs.declared.joint.BodyJoint.{BodyJoint}

-- a body that is carried along is there
abbrev pub is_carried_in : Option Body → Bool
is_carried_in None = false
is_carried_in (Some b) = is_carried b

-- a body that can have another pose
pub record CanPose (o : Pose) (b : Body) : Type 0 where
  pub body : IsBody b
  pub pose : IsPose o

-- there are bodies in the same slots as before, each with as many shapes that take part
pub record HaveSameSlots (old new : List (Option Body)) : Type 0 where
  pub slots : length new ≡ length old
  pub taken : (slot : ℕ) → is_some (body_at new slot) ≡ is_some (body_at old slot)
  pub shapes : (slot : ℕ) → shapes_in (body_at new slot) ≡ shapes_in (body_at old slot)

-- no timer is beyond
abbrev pub AreTimersWithin : ℕ → List (Option Body) → Type 0
AreTimersWithin limit bodies = (slot : ℕ) (b : Body) → slice_get bodies slot ≡ Some (Some b) → b.timer ≤ limit

-- ---- the impulse that a joint keeps

abbrev pub with_impulse : ℤ → BodyJoint → BodyJoint
with_impulse impulse j = record j { joint = record j.joint { impulse = impulse } }

-- the joint in the slot, if there is one, has this impulse
abbrev pub impulse_set : ℕ → ℤ → List (Option BodyJoint) → Option BodyJoint → List (Option BodyJoint)
impulse_set slot impulse joints None = joints
impulse_set slot impulse joints (Some j) = slice_set joints slot (Some (with_impulse impulse j))
