-- Trusted: What contracts see of a table of joints, and what it keeps beside them.
use Rattle.std.specs.Prelude.{ℕ, suc, ◌≤◌, cond, List, [], ◌∷◌, length, Option, IfSome}
use Rattle.body_handles.specs.declared.slot_table.TheConstants.{MAX_SLOTS}
use Rattle.packed_sets.specs.Packs.{Packs}
use Rattle.plain_world.specs.declared.joint.BodyJoint.{BodyJoint}
use Rattle.plain_world.specs.Joints.{is_end_in}
use Rattle.world_core_base.specs.declared.joint_ends.Ends.{Ends}
use Rattle.world_core_base.specs.JointEnds.{AreEnds, HasRoomFor}

-- the joint in each slot, and the bodies for one more joint of which there is room
pub record Joints : Type 0 where
  pub joints : List (Option BodyJoint)
  pub room : Option Ends

-- ---- the joints of a body

-- their slots, where the list begins with this one
abbrev pub own_from : ℕ → ℕ → List (Option BodyJoint) → List ℕ
own_from body slot [] = []
own_from body slot (o ∷ joints) = cond (is_end_in body o) (slot ∷ own_from body (suc slot) joints) (own_from body (suc slot) joints)

-- the slots of the joints that have the body as an end, ascending
unfoldable pub own_slots : ℕ → List (Option BodyJoint) → List ℕ
own_slots body joints = own_from body 0 joints

-- ---- what is kept

-- room for a joint between two bodies, in whatever slot
pub record HasRoom (ends : Ends) (slots : ℕ) (sets : Packs ℕ) (joints_left : ℕ) : Type 0 where
  pub for_joints : 1 ≤ joints_left
  pub for_ends : HasRoomFor ends slots sets

-- The ends of the joints by body, and room in each list for what is named.
pub record IsJointTable (joints : List (Option BodyJoint)) (sets : Packs ℕ) (room : Option Ends) (joints_left : ℕ) : Type 0 where
  pub few : length joints ≤ MAX_SLOTS
  pub ends : AreEnds joints sets.sets
  pub ready : IfSome room (λ ends. HasRoom ends (length joints) sets joints_left)
