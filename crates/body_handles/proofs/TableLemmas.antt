-- What giving out and taking back a slot keeps.
use Rattle.std.proofs.Common.{◌≡◌, ℕ, zero, suc, slice_set, ◌+◌, ◌<◌, ◌≤◌, List, [], ◌∷◌, ◌++◌, length, get_or, true, false, Some, inl, inr, arith, refl}
use Rattle.std.specs.Prelude.{nat_lt}
use Rattle.std.specs.List.{All, slice_get}
use Rattle.std.proofs.lemmas.Grind.{common_steps}
use Rattle.std.proofs.lemmas.Bool.{cases_lt}
use Rattle.std.proofs.lemmas.List.Elements.{All-set, All-push}
use Rattle.std.proofs.lemmas.List.Sums.{passes_at_first}
use Rattle.std.proofs.lemmas.Option.{slice_get_past, slice_get-get_or, slice_get_within, get_or_from_slice_get}
use Rattle.body_handles.specs.declared.slot_table.TheConstants.{MAX_SLOTS, WORN_OUT}
use Rattle.body_handles.specs.declared.slot_table.SlotEntry.{SlotEntry}
use Rattle.body_handles.specs.declared.handle.Handle.{Handle}
use Rattle.body_handles.specs.SlotEntries.{lowest, generation_at, slot_entries_with, slot_entries_without, IsLive, IsSlotEntry, IsTable, is_open}
use Rattle.body_handles.proofs.LowestLemmas.{no_slot_entry, lowest-le-length, lowest-set, lowest-set_closed, lowest-push_closed}

IsSlotEntry-opened : (p : SlotEntry) → is_open p ≡ true → IsSlotEntry p → IsSlotEntry (record { generation = p.generation; live = true })
IsSlotEntry-opened p shown ok = record { positive = ok.positive; bounded = ok.bounded; takes_back = λ e. grind (arith, common_steps) }

-- the entry that is given out can be taken back
pub IsSlotEntry-given : (slot_entries : List SlotEntry) → All IsSlotEntry slot_entries → IsSlotEntry (record { generation = generation_at slot_entries (lowest slot_entries); live = true })
IsSlotEntry-given slot_entries all = elim (cases_lt (lowest slot_entries) (length slot_entries)) [
  | inl h ↦ rw (slice_get-get_or slot_entries (lowest slot_entries) no_slot_entry h) (IsSlotEntry-opened _ (passes_at_first is_open slot_entries no_slot_entry h) (all (lowest slot_entries) no_slot_entry h))
  | inr h ↦ rw (slice_get_past slot_entries (lowest slot_entries) h) (record { positive = omega arith; bounded = omega arith; takes_back = λ e. omega arith })
]

-- a table stays sound when its lowest open slot is given out
pub IsTable-given : (slot_entries : List SlotEntry) → All IsSlotEntry slot_entries → length slot_entries ≤ MAX_SLOTS → lowest slot_entries < MAX_SLOTS → IsTable (slot_entries_with slot_entries (lowest slot_entries)) (lowest slot_entries + 1)
IsTable-given slot_entries all few below =
    let within = lowest-le-length slot_entries in
    let given : SlotEntry = record { generation = generation_at slot_entries (lowest slot_entries); live = true } in
    elim (cases_lt (lowest slot_entries) (length slot_entries)) [
      | inl h ↦ let old : nat_lt (lowest slot_entries) (length slot_entries) ≡ true = grind arith in rw old (record {
        each = All-set IsSlotEntry slot_entries (lowest slot_entries) _ (IsSlotEntry-given slot_entries all) all;
        few = grind (arith, common_steps);
        none_below = lowest-set_closed slot_entries (lowest slot_entries) _ (omega arith) h refl;
      })
      | inr h ↦ let new : nat_lt (lowest slot_entries) (length slot_entries) ≡ false = grind arith in
          let grows : length slot_entries + 1 ≤ lowest (slot_entries ++ given ∷ []) = lowest-push_closed slot_entries given h refl in rw new (record {
            each = All-push IsSlotEntry slot_entries _ all (IsSlotEntry-given slot_entries all);
            few = grind (arith, common_steps);
            none_below = omega arith;
          })
    ]

-- what is given out is live
slice_get-set : (slot_entries : List SlotEntry) (i : ℕ) (p : SlotEntry) → i < length slot_entries → slice_get (slice_set slot_entries i p) i ≡ Some p
slice_get-set [] i p h = absurd (omega arith)
slice_get-set (q ∷ qs) zero p h = refl
slice_get-set (q ∷ qs) (suc i) p h = slice_get-set qs i p (omega arith)

slice_get-push : (slot_entries : List SlotEntry) (i : ℕ) (p : SlotEntry) → i ≡ length slot_entries → slice_get (slot_entries ++ p ∷ []) i ≡ Some p
slice_get-push [] zero p h = refl
slice_get-push [] (suc i) p h = absurd (omega arith)
slice_get-push (q ∷ qs) zero p h = absurd (omega arith)
slice_get-push (q ∷ qs) (suc i) p h = slice_get-push qs i p (omega arith)

pub IsLive-given : (slot_entries : List SlotEntry) (slot : ℕ) → slot ≤ length slot_entries → IsLive (slot_entries_with slot_entries slot) (record { slot = slot; generation = generation_at slot_entries slot })
IsLive-given slot_entries slot within = elim (cases_lt slot (length slot_entries)) [
  | inl h ↦ let old : nat_lt slot (length slot_entries) ≡ true = grind arith in rw old (slice_get-set slot_entries slot _ h)
  | inr h ↦ let new : nat_lt slot (length slot_entries) ≡ false = grind arith in rw new (slice_get-push slot_entries slot _ (omega arith))
]

IsSlotEntry-freed : (g : ℕ) → IsSlotEntry (record { generation = g; live = true }) → IsSlotEntry (record { generation = g + 1; live = false })
IsSlotEntry-freed g ok = let grows : g < WORN_OUT = ok.takes_back refl in record { positive = omega arith; bounded = omega arith; takes_back = λ e. cc }

-- a table stays sound when a live handle is taken back, if the next search begins no higher than its slot
pub IsTable-taken : (slot_entries : List SlotEntry) (h : Handle) (first_open next : ℕ) → IsTable slot_entries first_open → IsLive slot_entries h → next ≤ first_open → next ≤ h.slot → IsTable (slot_entries_without slot_entries h) next
IsTable-taken slot_entries h first_open next ok live le below =
    let within : h.slot < length slot_entries = slice_get_within slot_entries h.slot _ live in
    let here : get_or slot_entries h.slot no_slot_entry ≡ record { generation = h.generation; live = true } = get_or_from_slice_get slot_entries h.slot _ no_slot_entry live in
    let was : IsSlotEntry (record { generation = h.generation; live = true }) = rw here at (ok.each h.slot no_slot_entry within) in
    record {
      each = All-set IsSlotEntry slot_entries h.slot _ (IsSlotEntry-freed h.generation was) ok.each;
      few = let few = ok.few in grind (arith, common_steps);
      none_below = let low = ok.none_below in lowest-set slot_entries next h.slot _ (omega arith) below;
    }
