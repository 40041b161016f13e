-- Trusted: Who has fallen asleep, or has woken, between two labellings.
use Rattle.std.specs.Prelude.{ℕ, suc, ◌&&◌, Bool, false, not, cond, List, [], ◌∷◌}
use Rattle.std.specs.Option.{option_map_or}
use Rattle.body_handles.specs.declared.handle.Handle.{Handle}
use Rattle.body_handles.specs.declared.slot_table.SlotEntry.{SlotEntry}
use Rattle.islands.specs.declared.label.Label.{Label}
use Rattle.islands.specs.Labels.{Labels, label_at, is_asleep}

-- the handles of the slots that pass the test, ascending, where the list begins with this slot
abbrev pub handles_where : (ℕ → Bool) → ℕ → List SlotEntry → List Handle
handles_where test slot [] = []
handles_where test slot (p ∷ slot_entries) = cond (test slot) (record { slot = slot; generation = p.generation } ∷ handles_where test (suc slot) slot_entries) (handles_where test (suc slot) slot_entries)

abbrev pub sleeps : Labels → ℕ → Bool
sleeps labels slot = option_map_or (λ (l : Label). is_asleep l.state) (label_at labels slot) false

-- the handles, ascending, of the bodies that sleep by the second labels and don't by the first
unfoldable pub asleep_only_in : List SlotEntry → Labels → Labels → List Handle
asleep_only_in slot_entries others labels = handles_where (λ slot. sleeps labels slot && not (sleeps others slot)) 0 slot_entries
