-- A handle that was taken back is never live again.
use Rattle.std.proofs.Common.{◌≡◌, ℕ, zero, suc, ◌+◌, ◌<◌, ◌≤◌, List, [], ◌∷◌, ◌++◌, length, Option, Some, None, Bool, true, false, arith, refl, sym, ap, ◌∙◌, slice_set, cond}
use Rattle.std.specs.Prelude.{IsSomeAnd, nat_lt}
use Rattle.std.specs.List.{slice_get}
use Rattle.std.proofs.lemmas.Grind.{common_steps}
use Rattle.body_handles.specs.declared.slot_table.TheConstants.{MAX_SLOTS}
use Rattle.body_handles.specs.declared.slot_table.SlotEntry.{SlotEntry}
use Rattle.body_handles.specs.declared.handle.Handle.{Handle}
use Rattle.body_handles.specs.SlotEntries.{lowest, generation_at, slot_entries_with, slot_entries_without, is_live, is_live_at, IsGone}
use Rattle.body_handles.specs.Calls.{Call, Insert, Remove, after_call, after_calls, RemovedStaysGone}

-- a write that lowers no generation, at slot i, leaves slot k past the generation g
gone-set : (slot_entries : List SlotEntry) (i k g : ℕ) (p : SlotEntry) → ((old : SlotEntry) → slice_get slot_entries i ≡ Some old → old.generation ≤ p.generation)
    → IsSomeAnd (slice_get slot_entries k) (λ q. g < q.generation) → IsSomeAnd (slice_get (slice_set slot_entries i p) k) (λ q. g < q.generation)
gone-set [] i k g p le gone = gone
gone-set (q ∷ qs) zero zero g p le gone = omega (arith, le q refl)
gone-set (q ∷ qs) zero (suc k) g p le gone = gone
gone-set (q ∷ qs) (suc i) zero g p le gone = gone
gone-set (q ∷ qs) (suc i) (suc k) g p le gone = gone-set qs i k g p le gone

-- so does a new slot
gone-push : (slot_entries : List SlotEntry) (k g : ℕ) (p : SlotEntry) → IsSomeAnd (slice_get slot_entries k) (λ q. g < q.generation) → IsSomeAnd (slice_get (slot_entries ++ p ∷ []) k) (λ q. g < q.generation)
gone-push [] k g p gone = absurd gone
gone-push (q ∷ qs) zero g p gone = gone
gone-push (q ∷ qs) (suc k) g p gone = gone-push qs k g p gone

gone-given : (old : Bool) (slot_entries : List SlotEntry) (slot : ℕ) (h : Handle) → IsGone slot_entries h
    → IsGone (cond old (slice_set slot_entries slot (record { generation = generation_at slot_entries slot; live = true })) (slot_entries ++ record { generation = generation_at slot_entries slot; live = true } ∷ [])) h
gone-given true slot_entries slot h gone = gone-set slot_entries slot h.slot h.generation _ (λ old e. rw e (omega arith)) gone
gone-given false slot_entries slot h gone = gone-push slot_entries h.slot h.generation _ gone

gone-insert : (room : Bool) (slot_entries : List SlotEntry) (h : Handle) → IsGone slot_entries h → IsGone (cond room (slot_entries_with slot_entries (lowest slot_entries)) slot_entries) h
gone-insert true slot_entries h gone = gone-given (nat_lt (lowest slot_entries) (length slot_entries)) slot_entries (lowest slot_entries) h gone
gone-insert false slot_entries h gone = gone

live_generation : (o : Option SlotEntry) (g : ℕ) (old : SlotEntry) → is_live_at o g ≡ true → o ≡ Some old → old.generation ≡ g
live_generation None g old e f = cc
live_generation (Some p) g old e f = let same : p ≡ old = cc in let here : p.generation ≡ g = grind (arith, common_steps) in sym (ap (λ (q : SlotEntry). q.generation) same) ∙ here

gone-remove : (live : Bool) (slot_entries : List SlotEntry) (k h : Handle) → is_live slot_entries k ≡ live → IsGone slot_entries h → IsGone (cond live (slot_entries_without slot_entries k) slot_entries) h
gone-remove true slot_entries k h live gone =
    gone-set slot_entries k.slot h.slot h.generation _ (λ old e. let same : old.generation ≡ k.generation = live_generation (slice_get slot_entries k.slot) k.generation old live e in omega arith) gone
gone-remove false slot_entries k h live gone = gone

gone-after_call : (call : Call) (slot_entries : List SlotEntry) (h : Handle) → IsGone slot_entries h → IsGone (after_call call slot_entries) h
gone-after_call Insert slot_entries h gone = gone-insert (nat_lt (lowest slot_entries) MAX_SLOTS) slot_entries h gone
gone-after_call (Remove k) slot_entries h gone = gone-remove (is_live slot_entries k) slot_entries k h refl gone

gone-dead : (o : Option SlotEntry) (g : ℕ) → IsSomeAnd o (λ p. g < p.generation) → is_live_at o g ≡ false
gone-dead None g gone = absurd gone
gone-dead (Some p) g gone = grind (arith, common_steps)

stays_gone : (calls : List Call) (slot_entries : List SlotEntry) (h : Handle) → IsGone slot_entries h → is_live (after_calls calls slot_entries) h ≡ false
stays_gone [] slot_entries h gone = gone-dead (slice_get slot_entries h.slot) h.generation gone
stays_gone (call ∷ calls) slot_entries h gone = stays_gone calls (after_call call slot_entries) h (gone-after_call call slot_entries h gone)

-- a handle that is taken back is gone
pub gone-taken : (slot_entries : List SlotEntry) (slot g : ℕ) → slice_get slot_entries slot ≡ Some (record { generation = g; live = true })
    → IsSomeAnd (slice_get (slice_set slot_entries slot (record { generation = g + 1; live = false })) slot) (λ p. g < p.generation)
gone-taken [] slot g e = cc
gone-taken (q ∷ qs) zero g e = omega arith
gone-taken (q ∷ qs) (suc slot) g e = gone-taken qs slot g e

pub removed_stays_gone-holds : RemovedStaysGone
removed_stays_gone-holds = record {
  removed = λ calls slot_entries h live. stays_gone calls (slot_entries_without slot_entries h) h (gone-taken slot_entries h.slot h.generation live);
  gone = stays_gone;
}
