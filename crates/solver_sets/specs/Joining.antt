-- Trusted: Joints that are made and that go, with their slots.
use Rattle.std.specs.Prelude.{ℕ, zero, suc, cond, List, None, length, slice_set}
use Rattle.body_handles.specs.declared.handle.Handle.{Handle}
use Rattle.body_handles.specs.declared.slot_table.SlotEntry.{SlotEntry}
use Rattle.body_handles.specs.SlotEntries.{generation_at, lowest, slot_entries_with, slot_entries_without}
use Rattle.plain_world.specs.declared.joint.BodyJoint.{BodyJoint}
use Rattle.plain_world.specs.Joints.{is_end_in, joint_at}
use Rattle.plain_world.specs.Slots.{with_item}
use Rattle.solver_sets.specs.Ties.{JointSlots}

-- the handle at which a slot is given out
abbrev pub handle_at : List SlotEntry → ℕ → Handle
handle_at slot_entries slot = record { slot = slot; generation = generation_at slot_entries slot }

-- a joint that is made: it gets the lowest slot that can be given out
abbrev pub joined_with : BodyJoint → JointSlots → JointSlots
joined_with j s = record { slot_entries = slot_entries_with s.slot_entries (lowest s.slot_entries); joints = with_item s.joints (lowest s.slot_entries) j }

-- a joint that goes: its slot is free, at the next generation
abbrev pub unjoined : Handle → JointSlots → JointSlots
unjoined h s = record { slot_entries = slot_entries_without s.slot_entries h; joints = slice_set s.joints h.slot None }

-- the joint in a slot goes, if one of its ends is the body
abbrev pub unjoined_if : ℕ → ℕ → JointSlots → JointSlots
unjoined_if body slot s = cond (is_end_in body (joint_at s.joints slot)) (unjoined (handle_at s.slot_entries slot) s) s

-- those in the slots below n, in ascending order
abbrev pub unjoined_up : ℕ → ℕ → JointSlots → JointSlots
unjoined_up body zero s = s
unjoined_up body (suc n) s = unjoined_if body n (unjoined_up body n s)

abbrev pub unjoined_all : ℕ → JointSlots → JointSlots
unjoined_all body s = unjoined_up body (length s.joints) s
