-- Slots of joints at the front of a text.
use Rattle.std.specs.Prelude.{◌≡◌, ℕ, ◌≤◌, ◌++◌, List, []}
use Rattle.body_handles.specs.declared.slot_table.TheConstants.{MAX_SLOTS}
use Rattle.serde_json.specs.Data.{Data, depth}
use Rattle.serde_json.specs.Events.{items_len}
use Rattle.serde_json.specs.View.{items_of}
use Rattle.world_file_base.specs.Asks.{no_asks}
use Rattle.world_file_base.specs.SavedSlots.{joint_key, joints_in, slot_entry_in, slot_entries_in, slot_joint}
use Rattle.world_file_base.specs.AskedSlots.{joint_slot_asks, joints_asks}
use Rattle.world_file_base.specs.Written.{list_data}
use Rattle.world_file_base.specs.declared.saved.SavedJoints.{SavedJoints}
use Rattle.world_file_base.specs.declared.version.Version.TheVariants.{Second}
use Rattle.loaded_text.specs.Stands.{Stands}
use Rattle.loaded_text.specs.declared.joint_slots.JointSlot.{JointSlot}

pub record JointSlotHolds (s : JointSlot) (text rest : List ℕ) : Type 0 where
  pub value : Data
  pub stands : Stands [] value text rest
  pub shallow : depth value ≤ 3
  pub entry : slot_entry_in joint_key value ≡ s.entry
  pub joint : slot_joint Second value ≡ s.joint
  pub asks : joint_slot_asks Second value no_asks ≡ no_asks

-- what a list of slots adds to those that were read before
pub record JointsHold (lead : List ℕ) (old new : SavedJoints) (text rest : List ℕ) : Type 0 where
  pub items : List Data
  pub stands : Stands lead (list_data items) text rest
  pub shallow : depth (list_data items) ≤ 4
  pub few : items_len (items_of items) ≤ MAX_SLOTS
  pub slot_entries : new.slot_entries.items ≡ old.slot_entries.items ++ slot_entries_in joint_key (items_of items)
  pub joints : new.joints.items ≡ old.joints.items ++ joints_in Second (items_of items)
  pub asks : joints_asks Second (items_of items) no_asks ≡ no_asks
