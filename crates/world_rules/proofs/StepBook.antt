-- The book with the entries of a step: what the ticks have added, and what those that fall asleep lose.
use Rattle.std.proofs.Common.{◌≡◌, ℕ, ◌+◌, ◌≤◌, List, [], ◌∷◌, ◌++◌, Bool, false, cond, ℤ, pos, ◌+ℤ◌, unsigned_abs, arith, refl, sym, ap, ap₂, ◌∙◌, append_assoc}
use Rattle.std.specs.Prelude.{nat_le, ◌&&◌}
use Rattle.std.proofs.lemmas.Int.{ints}
use Rattle.impulse_ledger.specs.declared.entry.Cause.{Cause}
use Rattle.impulse_ledger.specs.declared.entry.Cause.TheVariants as causes
use Rattle.impulse_ledger.specs.declared.entry.Entry.{Entry}
use Rattle.impulse_ledger.specs.declared.totals.Total.{Total}
use Rattle.impulse_ledger.specs.declared.totals.Totals.{Totals}
use Rattle.impulse_ledger.specs.Sums.{is_cause, summed_of, summed}
use Rattle.impulse_ledger.specs.Totals.{sum_of, total_in, zero_total}
use Rattle.impulse_ledger.proofs.SumLemmas.{same_x, same_y, summed_of-append}
use Rattle.colour_solver.specs.declared.ticks.StepSums.{StepSums}
use Rattle.colour_solver.specs.Ticks.{AreSums, added}
use Rattle.world_rules.specs.Apply.{booked, step_entries}
use Rattle.world_rules.specs.Sound.{AreSmall}
use Rattle.world_rules.proofs.BookLemmas.{AreSmall-booked, AreSmall-step, of, other_cause, summed-booked, summed-step}

-- the entries of a step, and the one of those that fall asleep
abbrev pub entries_of : ℕ → StepSums → ℤ → ℤ → List Entry
entries_of call s x y = step_entries call s ++ booked call causes.Rest x y

-- ---- the whole sum

pub summed-stepped : (es : List Entry) (call : ℕ) (s : StepSums) (x y : ℤ) → summed (es ++ entries_of call s x y) ≡ sum_of (sum_of (summed es) (of (added s).x (added s).y)) (of x y)
summed-stepped es call s x y =
    ap summed (sym (append_assoc es (step_entries call s) (booked call causes.Rest x y))) ∙ summed-booked (es ++ step_entries call s) call causes.Rest x y ∙ ap (λ (t : Total). sum_of t (of x y)) (summed-step es call s)

-- ---- each cause has one entry at most

-- what the ticks have added isn't booked as rest
no_rest : (call : ℕ) (s : StepSums) → summed_of causes.Rest (step_entries call s) ≡ zero_total
no_rest call s = by (nat_le (unsigned_abs s.gravity.x) 0 && nat_le (unsigned_abs s.gravity.y) 0) (nat_le (unsigned_abs s.immovable.x) 0 && nat_le (unsigned_abs s.immovable.y) 0) (nat_le (unsigned_abs s.clamp.x) 0 && nat_le (unsigned_abs s.clamp.y) 0)
    (record { call = call; cause = causes.Gravity; x = s.gravity.x; y = s.gravity.y }) (record { call = call; cause = causes.Immovable; x = s.immovable.x; y = s.immovable.y }) (record { call = call; cause = causes.Clamp; x = s.clamp.x; y = s.clamp.y }) refl refl refl
  where
    by : (t u v : Bool) (a b c : Entry) → is_cause causes.Rest a.cause ≡ false → is_cause causes.Rest b.cause ≡ false → is_cause causes.Rest c.cause ≡ false → summed_of causes.Rest (cond t [] (a ∷ []) ++ (cond u [] (b ∷ []) ++ cond v [] (c ∷ []))) ≡ zero_total
    by t u v a b c f g h =
        summed_of-append causes.Rest (cond t [] (a ∷ [])) (cond u [] (b ∷ []) ++ cond v [] (c ∷ []))
        ∙ ap₂ sum_of (other_cause t causes.Rest a f) (summed_of-append causes.Rest (cond u [] (b ∷ [])) (cond v [] (c ∷ [])) ∙ ap₂ sum_of (other_cause u causes.Rest b g) (other_cause v causes.Rest c h))

-- a cause that has one of two sums only
rest_within : (es step rest settled : ℤ) (n m : ℕ) → step ≡ pos 0 → unsigned_abs ((es +ℤ rest) +ℤ settled) ≤ n + m → unsigned_abs ((es +ℤ (step +ℤ rest)) +ℤ settled) ≤ n + m
rest_within es step rest settled n m e h = omega (arith, ints, e, h)

step_within : (es step rest settled : ℤ) (n m : ℕ) → rest ≡ pos 0 → unsigned_abs ((es +ℤ step) +ℤ settled) ≤ n + m → unsigned_abs ((es +ℤ (step +ℤ rest)) +ℤ settled) ≤ n + m
step_within es step rest settled n m e h = omega (arith, ints, e, h)

-- what is known of the sums of one cause
record IsGrown (es step rest settled : Total) (most : ℕ) : Type 0 where
  x : unsigned_abs ((es.x +ℤ (step.x +ℤ rest.x)) +ℤ settled.x) ≤ most
  y : unsigned_abs ((es.y +ℤ (step.y +ℤ rest.y)) +ℤ settled.y) ≤ most

grown : (n m : ℕ) (es : List Entry) (settled : Totals) (call : ℕ) (s : StepSums) (x y : ℤ) (cause : Cause) → AreSums m s → unsigned_abs x ≤ m → unsigned_abs y ≤ m → AreSmall n (record { entries = es; settled = settled; room = 0 })
    → IsGrown (summed_of cause es) (summed_of cause (step_entries call s)) (summed_of cause (booked call causes.Rest x y)) (total_in cause settled) (n + m)
grown n m es settled call s x y cause sums hx hy small = by cause
  where
    ticked : (c : Cause) → is_cause c causes.Rest ≡ false → IsGrown (summed_of c es) (summed_of c (step_entries call s)) (summed_of c (booked call causes.Rest x y)) (total_in c settled) (n + m)
    ticked c h =
        let none = other_cause (nat_le (unsigned_abs x) 0 && nat_le (unsigned_abs y) 0) c (record { call = call; cause = causes.Rest; x = x; y = y }) h in
        let all = AreSmall-step n m es settled call s sums small in
        let all_x = all.x c in
        let all_y = all.y c in
        record {
          x = step_within (summed_of c es).x (summed_of c (step_entries call s)).x (summed_of c (booked call causes.Rest x y)).x (total_in c settled).x n m (same_x none) (rw (summed_of-append c es (step_entries call s)) at all_x);
          y = step_within (summed_of c es).y (summed_of c (step_entries call s)).y (summed_of c (booked call causes.Rest x y)).y (total_in c settled).y n m (same_y none) (rw (summed_of-append c es (step_entries call s)) at all_y);
        }

    by : (c : Cause) → IsGrown (summed_of c es) (summed_of c (step_entries call s)) (summed_of c (booked call causes.Rest x y)) (total_in c settled) (n + m)
    by causes.Command = ticked causes.Command refl
    by causes.Gravity = ticked causes.Gravity refl
    by causes.Immovable = ticked causes.Immovable refl
    by causes.Clamp = ticked causes.Clamp refl
    by causes.Departed = ticked causes.Departed refl
    by causes.Rest =
        let none = no_rest call s in
        let all = AreSmall-booked n m 0 0 es settled call causes.Rest x y small hx hy in
        let all_x = all.x causes.Rest in
        let all_y = all.y causes.Rest in
        record {
          x = rest_within (summed_of causes.Rest es).x (summed_of causes.Rest (step_entries call s)).x (summed_of causes.Rest (booked call causes.Rest x y)).x (total_in causes.Rest settled).x n m (same_x none) (rw (summed_of-append causes.Rest es (booked call causes.Rest x y)) at all_x);
          y = rest_within (summed_of causes.Rest es).y (summed_of causes.Rest (step_entries call s)).y (summed_of causes.Rest (booked call causes.Rest x y)).y (total_in causes.Rest settled).y n m (same_y none) (rw (summed_of-append causes.Rest es (booked call causes.Rest x y)) at all_y);
        }

-- no cause grows by more than m, where none of its sums is beyond that
pub AreSmall-stepped : (n m : ℕ) (es : List Entry) (settled : Totals) (call : ℕ) (s : StepSums) (x y : ℤ) → AreSums m s → unsigned_abs x ≤ m → unsigned_abs y ≤ m → AreSmall n (record { entries = es; settled = settled; room = 0 })
    → AreSmall (n + m) (record { entries = es ++ entries_of call s x y; settled = settled; room = 0 })
AreSmall-stepped n m es settled call s x y sums hx hy small =
    let by = λ (cause : Cause). grown n m es settled call s x y cause sums hx hy small in
    record {
      x = λ cause. rw (summed_of-append cause es (entries_of call s x y), summed_of-append cause (step_entries call s) (booked call causes.Rest x y)) (by cause).x;
      y = λ cause. rw (summed_of-append cause es (entries_of call s x y), summed_of-append cause (step_entries call s) (booked call causes.Rest x y)) (by cause).y;
    }
