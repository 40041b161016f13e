-- Trusted: Slots that are given out, with a generation each.
use Rattle.std.specs.Prelude.{◌≡◌, ℕ, ◌+◌, ◌<◌, ◌≤◌, Bool, true, false, not, ◌&&◌, nat_lt, ◌==◌, List, [], ◌∷◌, ◌++◌, length, slice_get, slice_set, Some, Option, IsSomeAnd, All, if◌then◌else◌}
use Rattle.std.specs.List.{position_or_len}
use Rattle.std.specs.Option.{option_map_or}
use Rattle.body_handles.specs.declared.slot_table.TheConstants.{MAX_SLOTS, WORN_OUT}
use Rattle.body_handles.specs.declared.handle.Handle.{Handle}
use Rattle.body_handles.specs.declared.slot_table.SlotEntry.{SlotEntry}

-- what contracts see: the slot entries, and how many more may be added with no memory
pub record Table : Type 0 where
  pub slot_entries : List SlotEntry
  pub room : ℕ

-- an entry whose slot can be given out: it is free and isn't worn out
abbrev pub is_open : SlotEntry → Bool
is_open p = not p.live && nat_lt p.generation WORN_OUT

-- the lowest slot that can be given out, which is a new one where no entry is open
abbrev pub lowest : List SlotEntry → ℕ
lowest slot_entries = position_or_len is_open slot_entries

-- the generation at which a slot is given out: that of its entry, and 1 for a new one
abbrev pub generation_of : Option SlotEntry → ℕ
generation_of entry = option_map_or (λ (p : SlotEntry). p.generation) entry 1

abbrev pub generation_at : List SlotEntry → ℕ → ℕ
generation_at slot_entries slot = generation_of (slice_get slot_entries slot)

-- the slot entries once a slot was given out
abbrev pub slot_entries_with : List SlotEntry → ℕ → List SlotEntry
slot_entries_with slot_entries slot =
    let given : SlotEntry = record { generation = generation_at slot_entries slot; live = true } in
    if nat_lt slot (length slot_entries) then slice_set slot_entries slot given else slot_entries ++ given ∷ []

-- the slot entries once a handle was taken back: its slot is free, at the next generation
abbrev pub slot_entries_without : List SlotEntry → Handle → List SlotEntry
slot_entries_without slot_entries h = slice_set slot_entries h.slot (record { generation = h.generation + 1; live = false })

-- the slot is given out now, at the handle's generation
abbrev pub IsLive : List SlotEntry → Handle → Type 0
IsLive slot_entries h = slice_get slot_entries h.slot ≡ Some (record { generation = h.generation; live = true })

-- the same as a test
abbrev pub is_live_at : Option SlotEntry → ℕ → Bool
is_live_at entry generation = option_map_or (λ (p : SlotEntry). p.live && (p.generation == generation)) entry false

abbrev pub is_live : List SlotEntry → Handle → Bool
is_live slot_entries h = is_live_at (slice_get slot_entries h.slot) h.generation

-- the slot has passed the handle's generation, so the handle was taken back
abbrev pub IsGone : List SlotEntry → Handle → Type 0
IsGone slot_entries h = IsSomeAnd (slice_get slot_entries h.slot) (λ p. h.generation < p.generation)

-- a generation is in its range, and that of a live entry can grow
pub record IsSlotEntry (p : SlotEntry) : Type 0 where
  pub positive : 1 ≤ p.generation
  pub bounded : p.generation ≤ WORN_OUT
  pub takes_back : p.live ≡ true → p.generation < WORN_OUT

-- what is kept of the slot entries and of the slot at which a search begins
pub record IsTable (slot_entries : List SlotEntry) (first_open : ℕ) : Type 0 where
  pub each : All IsSlotEntry slot_entries
  pub few : length slot_entries ≤ MAX_SLOTS
  pub none_below : first_open ≤ lowest slot_entries
