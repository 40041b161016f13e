-- Items by slot beside the places that say which slots are taken, as both change.
use Rattle.std.proofs.Common.{◌≡◌, ◌≢◌, ℕ, zero, suc, ◌<◌, ◌≤◌, List, [], ◌∷◌, ◌++◌, length, Option, Some, None, Bool, true, false, cond, arith, refl, sym, ap, ◌∙◌, is_some}
use Rattle.std.specs.Prelude.{slice_get, slice_set, not, ◌&&◌}
use Rattle.std.proofs.Common.{inl, inr, get_or}
use Rattle.std.proofs.lemmas.Bool.{cases_lt}
use Rattle.std.proofs.lemmas.List.Sums.{passes_at_first}
use Rattle.std.proofs.lemmas.Grind.{common_steps}
use Rattle.body_handles.specs.declared.slot_table.SlotEntry.{SlotEntry}
use Rattle.body_handles.specs.SlotEntries.{is_open, lowest}
use Rattle.body_handles.proofs.LowestLemmas.{no_slot_entry}
use Rattle.body_handles.specs.declared.slot_table.TheConstants.{MAX_SLOTS}
use Rattle.plain_world.specs.Slots.{item_at, is_taken, AreMatched}

-- ---- the slots

matched_set : {X : Type 0} (slot_entries : List SlotEntry) (bodies : List (Option X)) (slot : ℕ) (p : SlotEntry) (o : Option X) → length slot_entries ≡ length bodies → is_some o ≡ p.live
    → ((k : ℕ) → is_some (item_at bodies k) ≡ is_taken slot_entries k) → (k : ℕ) → is_some (item_at (slice_set bodies slot o) k) ≡ is_taken (slice_set slot_entries slot p) k
matched_set [] [] slot p o len e h k = h k
matched_set [] (b ∷ bs) slot p o len e h k = absurd (omega arith)
matched_set (q ∷ ps) [] slot p o len e h k = absurd (omega arith)
matched_set (q ∷ ps) (b ∷ bs) zero p o len e h zero = e
matched_set (q ∷ ps) (b ∷ bs) zero p o len e h (suc k) = h (suc k)
matched_set (q ∷ ps) (b ∷ bs) (suc slot) p o len e h zero = h zero
matched_set (q ∷ ps) (b ∷ bs) (suc slot) p o len e h (suc k) = matched_set ps bs slot p o (omega arith) e (λ j. h (suc j)) k

matched_push : {X : Type 0} (slot_entries : List SlotEntry) (bodies : List (Option X)) (p : SlotEntry) (o : Option X) → length slot_entries ≡ length bodies → is_some o ≡ p.live
    → ((k : ℕ) → is_some (item_at bodies k) ≡ is_taken slot_entries k) → (k : ℕ) → is_some (item_at (bodies ++ o ∷ []) k) ≡ is_taken (slot_entries ++ p ∷ []) k
matched_push [] [] p o len e h zero = e
matched_push [] [] p o len e h (suc k) = refl
matched_push [] (b ∷ bs) p o len e h k = absurd (omega arith)
matched_push (q ∷ ps) [] p o len e h k = absurd (omega arith)
matched_push (q ∷ ps) (b ∷ bs) p o len e h zero = h zero
matched_push (q ∷ ps) (b ∷ bs) p o len e h (suc k) = matched_push ps bs p o (omega arith) e (λ j. h (suc j)) k

pub AreMatched-set : {X : Type 0} (slot_entries : List SlotEntry) (bodies : List (Option X)) (slot : ℕ) (p : SlotEntry) (o : Option X) → is_some o ≡ p.live → AreMatched slot_entries bodies → AreMatched (slice_set slot_entries slot p) (slice_set bodies slot o)
AreMatched-set slot_entries bodies slot p o e m = record {
  slots = let s = m.slots in grind (arith, common_steps);
  few = let f = m.few in grind (arith, common_steps);
  taken = matched_set slot_entries bodies slot p o m.slots e m.taken;
}

pub AreMatched-push : {X : Type 0} (slot_entries : List SlotEntry) (bodies : List (Option X)) (p : SlotEntry) (o : Option X) → is_some o ≡ p.live → length bodies < MAX_SLOTS → AreMatched slot_entries bodies → AreMatched (slot_entries ++ p ∷ []) (bodies ++ o ∷ [])
AreMatched-push slot_entries bodies p o e few m = record {
  slots = let s = m.slots in grind (arith, common_steps);
  few = grind (arith, common_steps);
  taken = matched_push slot_entries bodies p o m.slots e m.taken;
}

pub item_at-set_other : {X : Type 0} (items : List (Option X)) (slot : ℕ) (o : Option X) (k : ℕ) → k ≢ slot → item_at (slice_set items slot o) k ≡ item_at items k
item_at-set_other [] slot o k ne = refl
item_at-set_other (a ∷ xs) zero o zero ne = absurd (ne refl)
item_at-set_other (a ∷ xs) zero o (suc k) ne = refl
item_at-set_other (a ∷ xs) (suc slot) o zero ne = refl
item_at-set_other (a ∷ xs) (suc slot) o (suc k) ne = item_at-set_other xs slot o k (λ e. ne (ap suc e))

pub item_at-set_none : {X : Type 0} (items : List (Option X)) (slot : ℕ) → item_at (slice_set items slot None) slot ≡ None
item_at-set_none [] slot = refl
item_at-set_none (a ∷ xs) zero = refl
item_at-set_none (a ∷ xs) (suc slot) = item_at-set_none xs slot

pub slice_get-set_other : {X : Type 0} (xs : List X) (slot k : ℕ) (x : X) → k ≢ slot → slice_get (slice_set xs slot x) k ≡ slice_get xs k
slice_get-set_other [] slot k x ne = refl
slice_get-set_other (y ∷ ys) zero zero x ne = absurd (ne refl)
slice_get-set_other (y ∷ ys) zero (suc k) x ne = refl
slice_get-set_other (y ∷ ys) (suc slot) zero x ne = refl
slice_get-set_other (y ∷ ys) (suc slot) (suc k) x ne = slice_get-set_other ys slot k x (λ e. ne (ap suc e))

-- what stands in a slot to which something is added, in it or at the end
pub slice_get-with : {X : Type 0} (t : Bool) (xs : List X) (slot k : ℕ) (x : X) → (t ≡ false → slot ≡ length xs) → k ≢ slot → slice_get (cond t (slice_set xs slot x) (xs ++ x ∷ [])) k ≡ slice_get xs k
slice_get-with true xs slot k x at ne = slice_get-set_other xs slot k x ne
slice_get-with false xs slot k x at ne = push_other xs k x (λ e. ne (e ∙ sym (at refl)))
  where
    push_other : {X : Type 0} (xs : List X) (k : ℕ) (x : X) → k ≢ length xs → slice_get (xs ++ x ∷ []) k ≡ slice_get xs k
    push_other [] zero x ne = absurd (ne refl)
    push_other [] (suc k) x ne = refl
    push_other (y ∷ ys) zero x ne = refl
    push_other (y ∷ ys) (suc k) x ne = push_other ys k x (λ e. ne (ap suc e))

pub slice_get-with_own : {X : Type 0} (t : Bool) (xs : List X) (slot : ℕ) (x : X) → (t ≡ true → slot < length xs) → (t ≡ false → slot ≡ length xs) → slice_get (cond t (slice_set xs slot x) (xs ++ x ∷ [])) slot ≡ Some x
slice_get-with_own true xs slot x below at = set_own xs slot x (below refl)
  where
    set_own : {X : Type 0} (xs : List X) (slot : ℕ) (x : X) → slot < length xs → slice_get (slice_set xs slot x) slot ≡ Some x
    set_own [] slot x lt = absurd (omega arith)
    set_own (y ∷ ys) zero x lt = refl
    set_own (y ∷ ys) (suc slot) x lt = set_own ys slot x (omega arith)
slice_get-with_own false xs slot x below at = push_own xs slot x (at refl)
  where
    push_own : {X : Type 0} (xs : List X) (slot : ℕ) (x : X) → slot ≡ length xs → slice_get (xs ++ x ∷ []) slot ≡ Some x
    push_own [] zero x e = refl
    push_own [] (suc slot) x e = absurd (omega arith)
    push_own (y ∷ ys) zero x e = absurd (omega arith)
    push_own (y ∷ ys) (suc slot) x e = push_own ys slot x (omega arith)

-- an item stands only in a slot that there is
pub below_length : {X : Type 0} (bodies : List (Option X)) (slot : ℕ) (b : X) → item_at bodies slot ≡ Some b → slot < length bodies
below_length [] slot b e = cc
below_length (a ∷ bs) zero b e = omega arith
below_length (a ∷ bs) (suc slot) b e = omega (arith, below_length bs slot b e)

-- ---- the lowest slot that can be given out

taken_at : (slot_entries : List SlotEntry) (slot : ℕ) (d : SlotEntry) → slot < length slot_entries → is_taken slot_entries slot ≡ (get_or slot_entries slot d).live
taken_at [] slot d h = absurd (omega arith)
taken_at (p ∷ ps) zero d h = refl
taken_at (p ∷ ps) (suc slot) d h = taken_at ps slot d (omega arith)

taken_past : (slot_entries : List SlotEntry) (slot : ℕ) → length slot_entries ≤ slot → is_taken slot_entries slot ≡ false
taken_past [] slot h = refl
taken_past (p ∷ ps) zero h = absurd (omega arith)
taken_past (p ∷ ps) (suc slot) h = taken_past ps slot (omega arith)

free_if : (live able : Bool) → (not live && able) ≡ true → live ≡ false
free_if true able e = cc
free_if false able e = refl

-- it isn't taken
pub lowest-free : (slot_entries : List SlotEntry) → is_taken slot_entries (lowest slot_entries) ≡ false
lowest-free slot_entries = elim (cases_lt (lowest slot_entries) (length slot_entries)) [
  | inl h ↦ (taken_at slot_entries (lowest slot_entries) no_slot_entry h ∙ free_if _ _ (passes_at_first is_open slot_entries no_slot_entry h))
  | inr h ↦ taken_past slot_entries (lowest slot_entries) h
]

-- and nothing is there
pub none_if : {X : Type 0} (o : Option X) → is_some o ≡ false → o ≡ None
none_if None e = refl
none_if (Some b) e = cc
