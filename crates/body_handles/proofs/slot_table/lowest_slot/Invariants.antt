use Rattle.std.proofs.Common.{◌≤◌}
use Rattle.body_handles.specs.SlotEntries.{lowest}
use Rattle.body_handles.proofs.slot_table.lowest_slot.Given as goal

abbrev pub invariant-loop-slot : goal.invariant-loop-slot
invariant-loop-slot l = l.slot ≤ lowest l.slot_entries
