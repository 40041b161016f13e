-- Handles of those who fell asleep or woke.
use Rattle.std.proofs.Common.{◌≡◌, ℕ, suc, ◌+◌, ◌-◌, ◌<◌, ◌≤◌, ◌&&◌, Bool, true, false, not, cond, is_some, List, [], ◌∷◌, slice_get, Contains, Option, Some, None, inl, inr, refl, sym, ap, ap₂, ◌∙◌, arith}
use Rattle.std.specs.List.{filter_map, cons_option}
use Rattle.std.specs.List.Sorted.{IsStrictlyIncreasing}
use Rattle.std.proofs.lemmas.Bool.{cases_eq}
use Rattle.std.specs.Option.{option_map_or}
use Rattle.contacts_base.proofs.Members.{Each, IsIn, each_from, each_in, in_from_contains}
use Rattle.contacts_base.proofs.Rising.{IsRising, rising_from_increasing}
use Rattle.body_handles.specs.declared.handle.Handle.{Handle}
use Rattle.body_handles.specs.declared.slot_table.SlotEntry.{SlotEntry}
use Rattle.islands.specs.declared.label.Label.{Label}
use Rattle.islands.specs.Labels.{Labels, is_asleep, label_at, sleeping_name}
use Rattle.plain_world.specs.declared.body.Body.{Body}
use Rattle.plain_world.specs.Slots.{body_at}
use Rattle.solver_sets.specs.Laws as laws
use Rattle.solver_sets.specs.Slept.{asleep_only_in, handles_where, sleeps}
use Rattle.solver_sets.specs.SinceTold.{handle_if, is_asleep_in, newly_asleep, newly_awake, was_asleep}
use Rattle.solver_sets.specs.Alike.{AreTiedAndTold}
use Rattle.plain_world.specs.Bodies.{is_mover_in}

-- ---- the handles of some slots alone, among which are all that pass

abbrev handle_in : (ℕ → Bool) → List SlotEntry → ℕ → Option Handle
handle_in test slot_entries slot = handle_if (test slot) slot (slice_get slot_entries slot)

none_listed : (test : ℕ → Bool) (all : List SlotEntry) (n : ℕ) (slots : List ℕ) → ((m : ℕ) → n ≤ m → slice_get all m ≡ None) → Each (λ (s : ℕ). n ≤ s) slots → filter_map (handle_in test all) slots ≡ []
none_listed test all n [] past from = refl
none_listed test all n (s ∷ slots) past from =
    ap (λ (o : Option SlotEntry). cons_option (handle_if (test s) s o) (filter_map (handle_in test all) slots)) (past s from.0) ∙ none_listed test all n slots past from.1

passed_by : (t : Bool) (h : Handle) (rest : List Handle) → (t ≡ true → ⊥) → rest ≡ cond t (h ∷ rest) rest
passed_by true h rest off = absurd (off refl)
passed_by false h rest off = refl

first_listed : (t : Bool) (s : ℕ) (o : Option SlotEntry) (p : SlotEntry) (rest : List Handle) → o ≡ Some p → cons_option (handle_if t s o) rest ≡ cond t (record { slot = s; generation = p.generation } ∷ rest) rest
first_listed t s o p rest e = ap (λ (v : Option SlotEntry). cons_option (handle_if t s v) rest) e ∙ by t
  where
    by : (u : Bool) → cons_option (cond u (Some (record { slot = s; generation = p.generation })) None) rest ≡ cond u (record { slot = s; generation = p.generation } ∷ rest) rest
    by true = refl
    by false = refl

above : (n k : ℕ) (slots : List ℕ) → n ≤ k → Each (λ (s : ℕ). k < s) slots → Each (λ (s : ℕ). suc n ≤ s) slots
above n k slots le each = each_from (λ (s : ℕ). suc n ≤ s) slots (λ s h. let lt : k < s = each_in (λ (x : ℕ). k < x) s slots each h in omega (arith, le, lt))

where_listed : (test : ℕ → Bool) (all : List SlotEntry) (n : ℕ) (slot_entries : List SlotEntry) (slots : List ℕ) → ((j m : ℕ) → m ≡ n + j → slice_get all m ≡ slice_get slot_entries j) → IsRising slots → Each (λ (s : ℕ). n ≤ s) slots
    → ((m : ℕ) → n ≤ m → test m ≡ true → IsIn m slots) → filter_map (handle_in test all) slots ≡ handles_where test n slot_entries
where_listed test all n [] slots at rises from every = none_listed test all n slots (λ m le. at (m - n) m (omega (arith, le))) from
where_listed test all n (p ∷ slot_entries) [] at rises from every =
    where_listed test all (suc n) slot_entries [] (λ j m e. at (suc j) m (omega (arith, e))) tt tt (λ m le on. every m (omega (arith, le)) on)
    ∙ passed_by (test n) (record { slot = n; generation = p.generation }) (handles_where test (suc n) slot_entries) (λ on. every n (omega arith) on)
where_listed test all n (p ∷ slot_entries) (k ∷ slots) at rises from every = elim (cases_eq n k) [
  | inl same ↦
      let rest : filter_map (handle_in test all) slots ≡ handles_where test (suc n) slot_entries =
      where_listed test all (suc n) slot_entries slots (λ j m e. at (suc j) m (omega (arith, e))) rises.1 (above n k slots (omega (arith, same)) rises.0)
      (λ m le on. elim (every m (omega (arith, le)) on) [ inl e ↦ absurd (omega (arith, e, same, le)) | inr h ↦ h ]) in
      let here : slice_get all k ≡ Some p = at 0 k (omega (arith, same)) in
      ap (λ (l : List Handle). cons_option (handle_in test all k) l) rest
      ∙ first_listed (test k) k (slice_get all k) p (handles_where test (suc n) slot_entries) here
      ∙ ap (λ (s : ℕ). cond (test s) (record { slot = s; generation = p.generation } ∷ handles_where test (suc n) slot_entries) (handles_where test (suc n) slot_entries)) (sym same)
  | inr off ↦
      let low : n ≤ k = from.0 in
      let lt : suc n ≤ k = omega (arith, low, off) in
      where_listed test all (suc n) slot_entries (k ∷ slots) (λ j m e. at (suc j) m (omega (arith, e))) rises (lt, above n k slots low rises.0) (λ m le on. every m (omega (arith, le)) on)
      ∙ passed_by (test n) (record { slot = n; generation = p.generation }) (handles_where test (suc n) slot_entries)
      (λ on. elim (every n (omega arith) on) [ inl e ↦ off e | inr h ↦ let far : k < n = each_in (λ (x : ℕ). k < x) n slots rises.0 h in omega (arith, far, low) ])
]

pub listed_where : (test : ℕ → Bool) (slot_entries : List SlotEntry) (slots : List ℕ) → IsStrictlyIncreasing slots → ((slot : ℕ) → test slot ≡ true → Contains slots slot)
    → filter_map (λ slot. handle_if (test slot) slot (slice_get slot_entries slot)) slots ≡ handles_where test 0 slot_entries
listed_where test slot_entries slots rises every =
    where_listed test slot_entries 0 slot_entries slots (λ j m e. let same : m ≡ j = omega (arith, e) in ap (slice_get slot_entries) same) (rising_from_increasing slots rises) (each_from (λ (s : ℕ). 0 ≤ s) slots (λ s h. omega arith))
    (λ m le on. in_from_contains slots m (every m on))

-- ---- what told bodies tell

where_same : (f g : ℕ → Bool) (n : ℕ) (slot_entries : List SlotEntry) → ((s : ℕ) → f s ≡ g s) → handles_where f n slot_entries ≡ handles_where g n slot_entries
where_same f g n [] h = refl
where_same f g n (p ∷ slot_entries) h = ap₂ (λ (t : Bool) (l : List Handle). cond t (record { slot = n; generation = p.generation } ∷ l) l) (h n) (where_same f g (suc n) slot_entries h)

name_tells : (o : Option Label) → is_some (sleeping_name o) ≡ option_map_or (λ (label : Label). is_asleep label.state) o false
name_tells None = refl
name_tells (Some l) = by_state (is_asleep l.state)
  where
    by_state : (t : Bool) → is_some (cond t (Some l.name) None) ≡ t
    by_state true = refl
    by_state false = refl

no_label : (o : Option Label) → is_some o ≡ false → option_map_or (λ (label : Label). is_asleep label.state) o false ≡ false
no_label None e = refl
no_label (Some l) e = cc

told_tells : (bodies : List (Option Body)) (old : Labels) (slot : ℕ) → AreTiedAndTold bodies old → was_asleep bodies slot ≡ sleeps old slot
told_tells bodies old slot t = by_body (body_at bodies slot) refl
  where
    by_body : (o : Option Body) → body_at bodies slot ≡ o → is_asleep_in o ≡ option_map_or (λ (label : Label). is_asleep label.state) (label_at old slot) false
    by_body None e = sym (no_label (label_at old slot) (t.tied slot ∙ ap is_mover_in e))
    by_body (Some b) e = ap (λ (o : Option ℕ). is_some o) (t.asleep slot b e) ∙ name_tells (label_at old slot)

pub told_bodies_tell : laws.ToldBodiesTell
unfolding newly_asleep newly_awake asleep_only_in
told_bodies_tell slot_entries bodies old labels t = (
  where_same (λ slot. sleeps labels slot && not (was_asleep bodies slot)) (λ slot. sleeps labels slot && not (sleeps old slot)) 0 slot_entries (λ s. ap (λ (u : Bool). sleeps labels s && not u) (told_tells bodies old s t)),
  where_same (λ slot. was_asleep bodies slot && not (sleeps labels slot)) (λ slot. sleeps old slot && not (sleeps labels slot)) 0 slot_entries (λ s. ap (λ (u : Bool). u && not (sleeps labels s)) (told_tells bodies old s t)),
)
