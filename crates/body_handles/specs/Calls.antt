-- Trusted: Whole runs of calls, and the law of generations.
use Rattle.std.specs.Prelude.{◌≡◌, List, [], ◌∷◌, nat_lt, false, if◌then◌else◌}
use Rattle.body_handles.specs.declared.slot_table.TheConstants.{MAX_SLOTS}
use Rattle.body_handles.specs.declared.handle.Handle.{Handle}
use Rattle.body_handles.specs.declared.slot_table.SlotEntry.{SlotEntry}
use Rattle.body_handles.specs.SlotEntries.{lowest, slot_entries_with, slot_entries_without, is_live, IsLive, IsGone}

pub data Call : Type 0 where
  Insert : Call
  Remove : Handle → Call

-- the slot entries after a call: an insert that is refused changes nothing, and what isn't live is not taken back
abbrev pub after_call : Call → List SlotEntry → List SlotEntry
after_call Insert slot_entries = if nat_lt (lowest slot_entries) MAX_SLOTS then slot_entries_with slot_entries (lowest slot_entries) else slot_entries
after_call (Remove h) slot_entries = if is_live slot_entries h then slot_entries_without slot_entries h else slot_entries

-- the slot entries after a list of calls, the first one first
abbrev pub after_calls : List Call → List SlotEntry → List SlotEntry
after_calls [] slot_entries = slot_entries
after_calls (call ∷ calls) slot_entries = after_calls calls (after_call call slot_entries)

-- A handle that was taken back is not live after any further calls.
pub record RemovedStaysGone : Type 0 where
  pub removed : (calls : List Call) (slot_entries : List SlotEntry) (h : Handle) → IsLive slot_entries h → is_live (after_calls calls (slot_entries_without slot_entries h)) h ≡ false
  pub gone : (calls : List Call) (slot_entries : List SlotEntry) (h : Handle) → IsGone slot_entries h → is_live (after_calls calls slot_entries) h ≡ false
