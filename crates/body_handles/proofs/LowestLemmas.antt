-- The lowest open slot, and how it moves as slots are given out and taken back.
use Rattle.std.proofs.Common.{◌≡◌, ℕ, ◌+◌, ◌<◌, ◌≤◌, ◌≢◌, List, [], ◌∷◌, ◌++◌, length, get_or, slice_set, true, false, inl, inr, arith}
use Rattle.std.proofs.lemmas.Bool.{cases_lt}
use Rattle.std.proofs.lemmas.Grind.{common_steps}
use Rattle.std.proofs.lemmas.List.{get_or-set_other, get_or-set_same}
use Rattle.std.proofs.Math.ListN.{get_or-append}
use Rattle.std.proofs.Math.Seq.{get_or-append_seam}
use Rattle.std.proofs.lemmas.List.Sums.{passes_at_first, fails_before_first, prefix_len-le-length}
use Rattle.body_handles.specs.declared.slot_table.SlotEntry.{SlotEntry}
use Rattle.body_handles.specs.SlotEntries.{is_open, lowest}

-- some entry, for reads past the end
pub no_slot_entry : SlotEntry
no_slot_entry = record { generation = 0; live = false }

pub lowest-le-length : (slot_entries : List SlotEntry) → lowest slot_entries ≤ length slot_entries
lowest-le-length slot_entries = prefix_len-le-length _ slot_entries

pub closed_below : (slot_entries : List SlotEntry) (n k : ℕ) → n ≤ lowest slot_entries → k < n → is_open (get_or slot_entries k no_slot_entry) ≡ false
closed_below slot_entries n k h lt = fails_before_first is_open slot_entries k no_slot_entry (omega arith)

-- where no slot below n is open, the lowest open one is n or above
pub le-lowest : (slot_entries : List SlotEntry) (n : ℕ) → n ≤ length slot_entries → ((k : ℕ) → k < n → is_open (get_or slot_entries k no_slot_entry) ≡ false) → n ≤ lowest slot_entries
le-lowest slot_entries n within closed = elim (cases_lt (lowest slot_entries) n) [
  | inl h ↦ let open' : is_open (get_or slot_entries (lowest slot_entries) no_slot_entry) ≡ true = passes_at_first is_open slot_entries no_slot_entry (omega arith) in
      let shut : is_open (get_or slot_entries (lowest slot_entries) no_slot_entry) ≡ false = closed (lowest slot_entries) h in absurd (cc)
  | inr h ↦ h
]

-- one more slot that isn't open
pub suc-le-lowest : (slot_entries : List SlotEntry) (n : ℕ) → n < length slot_entries → n ≤ lowest slot_entries → is_open (get_or slot_entries n no_slot_entry) ≡ false → n + 1 ≤ lowest slot_entries
suc-le-lowest slot_entries n within h shut = le-lowest slot_entries (n + 1) (omega arith) (λ k lt. elim (cases_lt k n) [
  | inl below ↦ closed_below slot_entries n k h below
  | inr above ↦ let at : k ≡ n = omega arith in rw at shut
])

-- an open slot that none is below
pub lowest_at : (slot_entries : List SlotEntry) (n : ℕ) → n < length slot_entries → n ≤ lowest slot_entries → is_open (get_or slot_entries n no_slot_entry) ≡ true → lowest slot_entries ≡ n
lowest_at slot_entries n within h open' = elim (cases_lt n (lowest slot_entries)) [
  | inl below ↦ let shut : is_open (get_or slot_entries n no_slot_entry) ≡ false = fails_before_first is_open slot_entries n no_slot_entry below in absurd (cc)
  | inr above ↦ omega arith
]

-- a write at a slot leaves those below it as they were
pub lowest-set : (slot_entries : List SlotEntry) (n slot : ℕ) (p : SlotEntry) → n ≤ lowest slot_entries → n ≤ slot → n ≤ lowest (slice_set slot_entries slot p)
lowest-set slot_entries n slot p h le = let len = lowest-le-length slot_entries in le-lowest (slice_set slot_entries slot p) n (grind (arith, common_steps))
    (λ k lt. let ne : k ≢ slot = omega arith in rw (get_or-set_other slot_entries slot k p no_slot_entry ne) (closed_below slot_entries n k h lt))

-- a write of an entry that isn't open, at the lowest open slot
pub lowest-set_closed : (slot_entries : List SlotEntry) (slot : ℕ) (p : SlotEntry) → slot ≤ lowest slot_entries → slot < length slot_entries → is_open p ≡ false → slot + 1 ≤ lowest (slice_set slot_entries slot p)
lowest-set_closed slot_entries slot p h within shut =
    let here : get_or (slice_set slot_entries slot p) slot no_slot_entry ≡ p = get_or-set_same slot_entries slot p no_slot_entry within in
    suc-le-lowest (slice_set slot_entries slot p) slot (grind (arith, common_steps)) (lowest-set slot_entries slot slot p h (omega arith)) (rw here shut)

-- a new entry that isn't open, where none is
pub lowest-push_closed : (slot_entries : List SlotEntry) (p : SlotEntry) → length slot_entries ≤ lowest slot_entries → is_open p ≡ false → length slot_entries + 1 ≤ lowest (slot_entries ++ p ∷ [])
lowest-push_closed slot_entries p h shut =
    let here : get_or (slot_entries ++ p ∷ []) (length slot_entries) no_slot_entry ≡ p = get_or-append_seam slot_entries p [] no_slot_entry in
    let old : length slot_entries ≤ lowest (slot_entries ++ p ∷ []) = le-lowest (slot_entries ++ p ∷ []) (length slot_entries) (grind (arith, common_steps))
    (λ k lt. rw (get_or-append slot_entries (p ∷ []) no_slot_entry k lt) (closed_below slot_entries (length slot_entries) k h lt)) in
    suc-le-lowest (slot_entries ++ p ∷ []) (length slot_entries) (grind (arith, common_steps)) old (rw here shut)
