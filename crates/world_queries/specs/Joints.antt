-- Trusted: Joints: what can be seen of one, and which a body has.
use Rattle.std.specs.Prelude.{ℕ, List, map, Option, option_map}
use Rattle.body_handles.specs.declared.handle.Handle.{Handle}
use Rattle.body_handles.specs.declared.slot_table.SlotEntry.{SlotEntry}
use Rattle.plain_world.specs.Joints.{joint_of}
use Rattle.plain_world.specs.Plain.{Plain}
use Rattle.plain_world.specs.declared.joint.BodyJoint.{BodyJoint}
use Rattle.solver_sets.specs.Joining.{handle_at}
use Rattle.world_core_base.specs.JointTables.{own_slots}
use Rattle.world_queries.specs.declared.joints.JointView.{JointView}

-- what can be seen of a joint: its ends are told by their ids
abbrev pub joint_view : List SlotEntry → BodyJoint → JointView
joint_view slot_entries j = record { a = handle_at slot_entries j.a; b = handle_at slot_entries j.b; collide = j.collide; joint = j.joint }

-- of the joint that a handle names
abbrev pub joint_seen : Plain → Handle → Option JointView
joint_seen w h = option_map (joint_view w.slot_entries) (joint_of w.joint_entries w.joints h)

-- the ids of the joints that have the body in a slot as an end, by slot
abbrev pub joints_at : ℕ → Plain → List Handle
joints_at slot w = map (handle_at w.joint_entries) (own_slots slot w.joints)
