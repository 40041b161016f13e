-- Inner: who has fallen asleep, or has woken, since bodies were told last.
use Rattle.std.specs.Prelude.{ℕ, ◌&&◌, Bool, false, not, cond, is_some, List, Option, Some, None}
use Rattle.body_handles.specs.declared.handle.Handle.{Handle}
use Rattle.body_handles.specs.declared.slot_table.SlotEntry.{SlotEntry}
use Rattle.islands.specs.Labels.{Labels}
use Rattle.plain_world.specs.declared.body.Body.{Body}
use Rattle.plain_world.specs.Slots.{body_at}
use Rattle.solver_sets.specs.Slept.{handles_where, sleeps}

-- that of the slot, if it passes and there is a place in it
abbrev pub handle_if : Bool → ℕ → Option SlotEntry → Option Handle
handle_if passes slot None = None
handle_if passes slot (Some p) = cond passes (Some (record { slot = slot; generation = p.generation })) None

abbrev pub is_asleep_in : Option Body → Bool
is_asleep_in None = false
is_asleep_in (Some b) = is_some b.asleep

-- the body in the slot was told that it sleeps
abbrev pub was_asleep : List (Option Body) → ℕ → Bool
was_asleep bodies slot = is_asleep_in (body_at bodies slot)

-- those that sleep by the labels, and weren't told so yet
unfoldable pub newly_asleep : List SlotEntry → List (Option Body) → Labels → List Handle
newly_asleep slot_entries bodies labels = handles_where (λ slot. sleeps labels slot && not (was_asleep bodies slot)) 0 slot_entries

-- those that were told that they sleep, and don't by the labels
unfoldable pub newly_awake : List SlotEntry → List (Option Body) → Labels → List Handle
newly_awake slot_entries bodies labels = handles_where (λ slot. was_asleep bodies slot && not (sleeps labels slot)) 0 slot_entries
