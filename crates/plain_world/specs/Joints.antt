-- Trusted: Joints by slot: which may be made, which stand between which bodies, and which bodies they keep from
-- colliding.
use Rattle.std.specs.Prelude.{◌≡◌, ◌≢◌, ℕ, ◌==◌, ◌||◌, Bool, true, false, cond, is_some, List, Option, Some, None, pos, unsigned_abs, map, option_map, option_and_then}
use Rattle.std.specs.List.{filter_map}
use Rattle.std.specs.Option.{option_map_or}
use Rattle.fixed_geom.specs.Refusals.{refused_unless}
use Rattle.fixed_geom.specs.Vectors.{is_within}
use Rattle.fixed_geom.specs.declared.refusal.Refusal.{Refusal}
use Rattle.fixed_geom.specs.declared.refusal.Refusal.TheVariants.{OutOfRange}
use Rattle.shapes.specs.Shapes.{is_between}
use Rattle.body_handles.specs.declared.handle.Handle.{Handle}
use Rattle.body_handles.specs.declared.slot_table.SlotEntry.{SlotEntry}
use Rattle.body_handles.specs.SlotEntries.{is_live}
use Rattle.joint_rows.specs.Joints.{IsJoint}
use Rattle.joint_rows.specs.declared.limits.TheConstants.{MAX_ANCHOR, MAX_JOINT_LENGTH}
use Rattle.contacts_base.specs.declared.body_pair.BodyPair.{BodyPair}
use Rattle.plain_world.specs.declared.body.Body.{Body}
use Rattle.plain_world.specs.declared.joint.BodyJoint.{BodyJoint}
use Rattle.plain_world.specs.declared.joint.JointDef.{JointDef}
use Rattle.plain_world.specs.Slots.{body_at, item_at}

-- ---- a joint that is made

-- why a joint can't be made, for its numbers
unfoldable pub joint_refusal : JointDef → Option Refusal
joint_refusal d =
    refused_unless (is_within (unsigned_abs MAX_ANCHOR) d.from) OutOfRange (
    refused_unless (is_within (unsigned_abs MAX_ANCHOR) d.to) OutOfRange (
    refused_unless (is_between (pos 0) MAX_JOINT_LENGTH d.length) OutOfRange (
    None)))

-- the joint, with no impulse yet
abbrev pub joint_made : JointDef → BodyJoint
joint_made d = record { a = d.a.slot; b = d.b.slot; collide = d.collide; joint = record { from = d.from; to = d.to; length = d.length; impulse = pos 0 } }

-- ---- joints by slot

abbrev pub joint_at : List (Option BodyJoint) → ℕ → Option BodyJoint
joint_at joints slot = item_at joints slot

abbrev pub joint_of : List SlotEntry → List (Option BodyJoint) → Handle → Option BodyJoint
joint_of slot_entries joints h = cond (is_live slot_entries h) (joint_at joints h.slot) None

abbrev pub is_joint_of : ℕ → BodyJoint → Bool
is_joint_of slot j = (j.a == slot) || (j.b == slot)

abbrev pub is_end_in : ℕ → Option BodyJoint → Bool
is_end_in slot joint = option_map_or (is_joint_of slot) joint false

-- ---- joints of a body that takes no part

-- a joint of the body in the slot has no impulse any more
abbrev pub idle_if : ℕ → BodyJoint → BodyJoint
idle_if slot j = cond (is_joint_of slot j) (record j { joint = record j.joint { impulse = pos 0 } }) j

abbrev pub idle_joints : ℕ → List (Option BodyJoint) → List (Option BodyJoint)
idle_joints slot joints = map (option_map (idle_if slot)) joints

-- ---- which bodies joints keep from colliding

-- the pair of bodies, if the joint keeps them from colliding
abbrev pub forbidden_by : BodyJoint → Option BodyPair
forbidden_by j = cond j.collide None (Some (record { a = j.a; b = j.b }))

abbrev pub forbidden_pairs : List (Option BodyJoint) → List BodyPair
forbidden_pairs joints = filter_map (option_and_then forbidden_by) joints

-- ---- what must hold of joints

pub record IsBodyJoint (bodies : List (Option Body)) (j : BodyJoint) : Type 0 where
  pub first : is_some (body_at bodies j.a) ≡ true
  pub second : is_some (body_at bodies j.b) ≡ true
  pub apart : j.a ≢ j.b
  pub joint : IsJoint j.joint

abbrev pub AreJoints : List (Option Body) → List (Option BodyJoint) → Type 0
AreJoints bodies joints = (slot : ℕ) (j : BodyJoint) → joint_at joints slot ≡ Some j → IsBodyJoint bodies j
