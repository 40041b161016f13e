-- Trusted: The ids of the bodies that there are, by slot.
use Rattle.std.specs.Prelude.{ℕ, cond, List, Option, Some, None, slice_get}
use Rattle.body_handles.specs.declared.handle.Handle.{Handle}
use Rattle.body_handles.specs.declared.slot_table.SlotEntry.{SlotEntry}

-- the id of what a slot was given out for, if it is taken
abbrev pub handle_of : ℕ → Option SlotEntry → Option Handle
handle_of slot None = None
handle_of slot (Some p) = cond p.live (Some (record { slot = slot; generation = p.generation })) None

abbrev pub handle_in : List SlotEntry → ℕ → Option Handle
handle_in slot_entries slot = handle_of slot (slice_get slot_entries slot)
