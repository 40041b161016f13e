-- The book with the entries of one more call.
use Rattle.std.proofs.Common.{◌≡◌, ℕ, ◌+◌, ◌≤◌, ◌^◌, List, [], ◌∷◌, ◌++◌, Bool, true, false, cond, ℤ, pos, ◌+ℤ◌, unsigned_abs, arith, refl, sym, ap, ◌∙◌}
use Rattle.std.specs.Prelude.{nat_le, ◌&&◌, if◌then◌else◌}
use Rattle.std.proofs.lemmas.Int.{ints}
use Rattle.std.proofs.lemmas.Grind.{common_steps}
use Rattle.impulse_ledger.specs.declared.entry.Cause.{Cause}
use Rattle.impulse_ledger.specs.declared.entry.Cause.TheVariants as causes
use Rattle.impulse_ledger.specs.declared.entry.Entry.{Entry}
use Rattle.impulse_ledger.specs.declared.totals.Total.{Total}
use Rattle.impulse_ledger.specs.declared.totals.Totals.{Totals}
use Rattle.impulse_ledger.specs.Sums.{Book, summed, summed_of, is_cause, total, total_of, Fits}
use Rattle.impulse_ledger.proofs.SumLemmas.{same_total, same_x, same_y, sum_of-zero, summed-append, summed_of-append}
use Rattle.impulse_ledger.specs.Totals.{impulse_of, sum_of, total_in, zero_total}
use Rattle.colour_solver.specs.declared.ticks.StepSums.{StepSums}
use Rattle.colour_solver.specs.Ticks.{AreSums, added}
use Rattle.world_rules.specs.Apply.{booked, step_entries}
use Rattle.world_rules.specs.Sound.{AreSmall, IsRoomy}

-- ---- what was booked sums to what it was

both_zero : (x y : ℤ) → (nat_le (unsigned_abs x) 0 && nat_le (unsigned_abs y) 0) ≡ true → (x ≡ pos 0) × (y ≡ pos 0)
both_zero x y e =
    let first : unsigned_abs x ≤ 0 = grind (arith, common_steps) in
    let second : unsigned_abs y ≤ 0 = grind (arith, common_steps) in
    (omega (arith, ints), omega (arith, ints))

summed_by : (b : Bool) (e : Entry) → (b ≡ true → zero_total ≡ impulse_of e) → summed (cond b [] (e ∷ [])) ≡ impulse_of e
summed_by true e h = h refl
summed_by false e h = sum_of-zero (impulse_of e)

-- an impulse with these components
abbrev pub of : ℤ → ℤ → Total
of x y = record { x = x; y = y }

pub summed-booked : (es : List Entry) (call : ℕ) (why : Cause) (x y : ℤ) → summed (es ++ booked call why x y) ≡ sum_of (summed es) (of x y)
summed-booked es call why x y =
    let nothing : (nat_le (unsigned_abs x) 0 && nat_le (unsigned_abs y) 0) ≡ true → zero_total ≡ of x y = λ h. same_total zero_total (of x y) (sym (both_zero x y h).0) (sym (both_zero x y h).1) in
    let one : summed (booked call why x y) ≡ of x y = summed_by (nat_le (unsigned_abs x) 0 && nat_le (unsigned_abs y) 0) (record { call = call; cause = why; x = x; y = y }) nothing in
    summed-append es (booked call why x y) ∙ ap (sum_of (summed es)) one

-- ---- no cause grows by more than what was booked

-- no component is greater than that of the other
record IsAtMost (t most : Total) : Type 0 where
  x : unsigned_abs t.x ≤ unsigned_abs most.x
  y : unsigned_abs t.y ≤ unsigned_abs most.y

share_le : (b : Bool) (t : Total) → IsAtMost (if b then t else zero_total) t
share_le true t = record { x = omega arith; y = omega arith }
share_le false t = record { x = omega arith; y = omega arith }

summed_of_by : (b : Bool) (cause : Cause) (e : Entry) → IsAtMost (summed_of cause (cond b [] (e ∷ []))) (impulse_of e)
summed_of_by true cause e = record { x = omega arith; y = omega arith }
summed_of_by false cause e = let own = share_le (is_cause cause e.cause) (impulse_of e) in record { x = omega (arith, ints, own.x); y = omega (arith, ints, own.y) }

grown_le : (a b s : ℤ) (n m : ℕ) → unsigned_abs (a +ℤ s) ≤ n → unsigned_abs b ≤ m → unsigned_abs ((a +ℤ b) +ℤ s) ≤ n + m
grown_le a b s n m h k = omega (arith, ints)

pub AreSmall-booked : (n m room more : ℕ) (es : List Entry) (settled : Totals) (call : ℕ) (why : Cause) (x y : ℤ) → AreSmall n (record { entries = es; settled = settled; room = room })
    → unsigned_abs x ≤ m → unsigned_abs y ≤ m → AreSmall (n + m) (record { entries = es ++ booked call why x y; settled = settled; room = more })
AreSmall-booked n m room more es settled call why x y small hx hy =
    let by = λ (cause : Cause). summed_of_by (nat_le (unsigned_abs x) 0 && nat_le (unsigned_abs y) 0) cause (record { call = call; cause = why; x = x; y = y }) in
    record {
      x = λ cause. rw (summed_of-append cause es (booked call why x y)) (grown_le (summed_of cause es).x (summed_of cause (booked call why x y)).x _ n m (small.x cause) (let own = (by cause).x in omega (arith, hx, own)));
      y = λ cause. rw (summed_of-append cause es (booked call why x y)) (grown_le (summed_of cause es).y (summed_of cause (booked call why x y)).y _ n m (small.y cause) (let own = (by cause).y in omega (arith, hy, own)));
    }

pub AreSmall-weaker : (n m : ℕ) (b : Book) → n ≤ m → AreSmall n b → AreSmall m b
AreSmall-weaker n m b h small = record { x = λ cause. omega (arith, small.x cause); y = λ cause. omega (arith, small.y cause) }

-- ---- the entries of a call have room in the numbers

pub near : (a b : ℤ) (n m : ℕ) → unsigned_abs a ≤ n → unsigned_abs b ≤ m → unsigned_abs (a +ℤ b) ≤ n + m
near a b n m h k = omega (arith, ints)

pub Fits-roomy : (b : Book) (e : Entry) → IsRoomy b → unsigned_abs e.x ≤ 2 ^ 83 → unsigned_abs e.y ≤ 2 ^ 83 → Fits b e
Fits-roomy b e r hx hy = record {
  x = let n = near (total b).x e.x _ _ r.x hx in omega (arith, n);
  y = let n = near (total b).y e.y _ _ r.y hy in omega (arith, n);
  of_cause_x = let n = near (total_of e.cause b).x e.x _ _ (r.causes.x e.cause) hx in omega (arith, n);
  of_cause_y = let n = near (total_of e.cause b).y e.y _ _ (r.causes.y e.cause) hy in omega (arith, n);
}

-- and those after a first one, and after a second
pub Fits-after : (b new : Book) (e : Entry) (call : ℕ) (why : Cause) (x y : ℤ) → IsRoomy b → new.entries ≡ b.entries ++ booked call why x y → new.settled ≡ b.settled
    → unsigned_abs x ≤ 2 ^ 83 → unsigned_abs y ≤ 2 ^ 83 → unsigned_abs e.x ≤ 2 ^ 83 → unsigned_abs e.y ≤ 2 ^ 83 → Fits new e
Fits-after b new e call why x y r entries settled hx hy ex ey =
    let after : Book = record { entries = b.entries ++ booked call why x y; settled = b.settled; room = 0 } in
    let small : AreSmall (2 ^ 126 + 2 ^ 123 + 2 ^ 83) after = AreSmall-booked (2 ^ 126 + 2 ^ 123) (2 ^ 83) b.room 0 b.entries b.settled call why x y r.causes hx hy in
    record {
      x = rw (entries, settled, summed-booked b.entries call why x y) (let r_x = r.x in omega (arith, ints));
      y = rw (entries, settled, summed-booked b.entries call why x y) (let r_y = r.y in omega (arith, ints));
      of_cause_x = rw (entries, settled) (let n = near (total_of e.cause after).x e.x (2 ^ 126 + 2 ^ 123 + 2 ^ 83) (2 ^ 83) (small.x e.cause) ex in omega (arith, n));
      of_cause_y = rw (entries, settled) (let n = near (total_of e.cause after).y e.y (2 ^ 126 + 2 ^ 123 + 2 ^ 83) (2 ^ 83) (small.y e.cause) ey in omega (arith, n));
    }

pub Fits-last : (b new : Book) (e : Entry) (call : ℕ) (a c : Cause) (x y u v : ℤ) → IsRoomy b → new.entries ≡ (b.entries ++ booked call a x y) ++ booked call c u v → new.settled ≡ b.settled
    → unsigned_abs x ≤ 2 ^ 83 → unsigned_abs y ≤ 2 ^ 83 → unsigned_abs u ≤ 2 ^ 83 → unsigned_abs v ≤ 2 ^ 83 → unsigned_abs e.x ≤ 2 ^ 83 → unsigned_abs e.y ≤ 2 ^ 83 → Fits new e
Fits-last b new e call a c x y u v r entries settled hx hy hu hv ex ey =
    let es : List Entry = b.entries ++ booked call a x y in
    let after : Book = record { entries = es ++ booked call c u v; settled = b.settled; room = 0 } in
    let first : AreSmall (2 ^ 126 + 2 ^ 123 + 2 ^ 83) (record { entries = es; settled = b.settled; room = 0 }) = AreSmall-booked (2 ^ 126 + 2 ^ 123) (2 ^ 83) b.room 0 b.entries b.settled call a x y r.causes hx hy in
    let small : AreSmall (2 ^ 126 + 2 ^ 123 + 2 ^ 83 + 2 ^ 83) after = AreSmall-booked (2 ^ 126 + 2 ^ 123 + 2 ^ 83) (2 ^ 83) 0 0 es b.settled call c u v first hu hv in
    record {
      x = rw (entries, settled, summed-booked es call c u v, summed-booked b.entries call a x y) (let r_x = r.x in omega (arith, ints));
      y = rw (entries, settled, summed-booked es call c u v, summed-booked b.entries call a x y) (let r_y = r.y in omega (arith, ints));
      of_cause_x = rw (entries, settled) (let n = near (total_of e.cause after).x e.x (2 ^ 126 + 2 ^ 123 + 2 ^ 83 + 2 ^ 83) (2 ^ 83) (small.x e.cause) ex in omega (arith, n));
      of_cause_y = rw (entries, settled) (let n = near (total_of e.cause after).y e.y (2 ^ 126 + 2 ^ 123 + 2 ^ 83 + 2 ^ 83) (2 ^ 83) (small.y e.cause) ey in omega (arith, n));
    }

-- ---- the entries of a step: each cause has one at most, and grows by no more than that

one_of : (m : ℕ) (a b c : Bool) (s x y z : ℤ) (n : ℕ) → (a && b) ≡ false → (a && c) ≡ false → (b && c) ≡ false → unsigned_abs s ≤ n → unsigned_abs x ≤ m → unsigned_abs y ≤ m → unsigned_abs z ≤ m → (a ≡ false → x ≡ pos 0) → (b ≡ false → y ≡ pos 0) → (c ≡ false → z ≡ pos 0)
    → unsigned_abs (s +ℤ (x +ℤ (y +ℤ z))) ≤ n + m
one_of m true true c s x y z n ab ac bc hs hx hy hz nx ny nz = cc
one_of m true false true s x y z n ab ac bc hs hx hy hz nx ny nz = cc
one_of m true false false s x y z n ab ac bc hs hx hy hz nx ny nz = let b = ny refl in let c = nz refl in omega (arith, ints)
one_of m false true true s x y z n ab ac bc hs hx hy hz nx ny nz = cc
one_of m false true false s x y z n ab ac bc hs hx hy hz nx ny nz = let a = nx refl in let c = nz refl in omega (arith, ints)
one_of m false false true s x y z n ab ac bc hs hx hy hz nx ny nz = let a = nx refl in let b = ny refl in omega (arith, ints)
one_of m false false false s x y z n ab ac bc hs hx hy hz nx ny nz = let a = nx refl in let b = ny refl in let c = nz refl in omega (arith, ints)

-- what is booked isn't of another cause
pub other_cause : (b : Bool) (cause : Cause) (e : Entry) → is_cause cause e.cause ≡ false → summed_of cause (cond b [] (e ∷ [])) ≡ zero_total
other_cause true cause e h = refl
other_cause false cause e h = rw h refl

-- no two of a step's causes are the same
record IsOne (c : Cause) : Type 0 where
  gi : (is_cause c causes.Gravity && is_cause c causes.Immovable) ≡ false
  gc : (is_cause c causes.Gravity && is_cause c causes.Clamp) ≡ false
  ic : (is_cause c causes.Immovable && is_cause c causes.Clamp) ≡ false

one_cause : (c : Cause) → IsOne c
one_cause causes.Command = record { gi = refl; gc = refl; ic = refl }
one_cause causes.Gravity = record { gi = refl; gc = refl; ic = refl }
one_cause causes.Immovable = record { gi = refl; gc = refl; ic = refl }
one_cause causes.Clamp = record { gi = refl; gc = refl; ic = refl }
one_cause causes.Rest = record { gi = refl; gc = refl; ic = refl }
one_cause causes.Departed = record { gi = refl; gc = refl; ic = refl }

moved : (es rest s : ℤ) (n : ℕ) → unsigned_abs ((es +ℤ s) +ℤ rest) ≤ n → unsigned_abs ((es +ℤ rest) +ℤ s) ≤ n
moved es rest s n h = omega (arith, ints)

-- both components are at most n in size
record AreWithin (n : ℕ) (t : Total) : Type 0 where
  x : unsigned_abs t.x ≤ n
  y : unsigned_abs t.y ≤ n

step_small : (n m : ℕ) (es : List Entry) (settled : Totals) (call : ℕ) (s : StepSums) (cause : Cause) → AreSums m s → AreWithin n (sum_of (summed_of cause es) (total_in cause settled)) → AreWithin (n + m) (sum_of (summed_of cause (es ++ step_entries call s)) (total_in cause settled))
step_small n m es settled call s cause small h =
    let gs : List Entry = booked call causes.Gravity s.gravity.x s.gravity.y in
    let is : List Entry = booked call causes.Immovable s.immovable.x s.immovable.y in
    let cs : List Entry = booked call causes.Clamp s.clamp.x s.clamp.y in
    let one = one_cause cause in
    let zg : Bool = nat_le (unsigned_abs s.gravity.x) 0 && nat_le (unsigned_abs s.gravity.y) 0 in
    let zi : Bool = nat_le (unsigned_abs s.immovable.x) 0 && nat_le (unsigned_abs s.immovable.y) 0 in
    let zc : Bool = nat_le (unsigned_abs s.clamp.x) 0 && nat_le (unsigned_abs s.clamp.y) 0 in
    let eg : Entry = record { call = call; cause = causes.Gravity; x = s.gravity.x; y = s.gravity.y } in
    let ei : Entry = record { call = call; cause = causes.Immovable; x = s.immovable.x; y = s.immovable.y } in
    let ec : Entry = record { call = call; cause = causes.Clamp; x = s.clamp.x; y = s.clamp.y } in
    let g = summed_of_by zg cause eg in
    let i = summed_of_by zi cause ei in
    let c = summed_of_by zc cause ec in
    record {
      x = rw (summed_of-append cause es (gs ++ (is ++ cs)), summed_of-append cause gs (is ++ cs), summed_of-append cause is cs)
          (moved (summed_of cause es).x ((summed_of cause gs).x +ℤ ((summed_of cause is).x +ℤ (summed_of cause cs).x)) (total_in cause settled).x (n + m)
          (one_of m (is_cause cause causes.Gravity) (is_cause cause causes.Immovable) (is_cause cause causes.Clamp) ((summed_of cause es).x +ℤ (total_in cause settled).x) (summed_of cause gs).x (summed_of cause is).x (summed_of cause cs).x n one.gi one.gc one.ic h.x
          (within g.x small.gravity.x) (within i.x small.immovable.x) (within c.x small.clamp.x)
          (λ e. same_x (other_cause zg cause eg e)) (λ e. same_x (other_cause zi cause ei e)) (λ e. same_x (other_cause zc cause ec e))));
      y = rw (summed_of-append cause es (gs ++ (is ++ cs)), summed_of-append cause gs (is ++ cs), summed_of-append cause is cs)
          (moved (summed_of cause es).y ((summed_of cause gs).y +ℤ ((summed_of cause is).y +ℤ (summed_of cause cs).y)) (total_in cause settled).y (n + m)
          (one_of m (is_cause cause causes.Gravity) (is_cause cause causes.Immovable) (is_cause cause causes.Clamp) ((summed_of cause es).y +ℤ (total_in cause settled).y) (summed_of cause gs).y (summed_of cause is).y (summed_of cause cs).y n one.gi one.gc one.ic h.y
          (within g.y small.gravity.y) (within i.y small.immovable.y) (within c.y small.clamp.y)
          (λ e. same_y (other_cause zg cause eg e)) (λ e. same_y (other_cause zi cause ei e)) (λ e. same_y (other_cause zc cause ec e))));
    }
  where
    within : {a b k : ℕ} → a ≤ b → b ≤ k → a ≤ k
    within f g = omega (arith, f, g)

pub AreSmall-step : (n m : ℕ) (es : List Entry) (settled : Totals) (call : ℕ) (s : StepSums) → AreSums m s → AreSmall n (record { entries = es; settled = settled; room = 0 }) → AreSmall (n + m) (record { entries = es ++ step_entries call s; settled = settled; room = 0 })
AreSmall-step n m es settled call s sums small =
    let by = λ (cause : Cause). step_small n m es settled call s cause sums (record { x = small.x cause; y = small.y cause }) in
    record { x = λ cause. (by cause).x; y = λ cause. (by cause).y }

-- the sums with a step's entries
pub summed-step : (es : List Entry) (call : ℕ) (s : StepSums) → summed (es ++ step_entries call s) ≡ sum_of (summed es) (of (added s).x (added s).y)
summed-step es call s =
    let gs : List Entry = booked call causes.Gravity s.gravity.x s.gravity.y in
    let is : List Entry = booked call causes.Immovable s.immovable.x s.immovable.y in
    let c = summed-booked is call causes.Clamp s.clamp.x s.clamp.y in
    let i = summed-booked [] call causes.Immovable s.immovable.x s.immovable.y in
    let g = summed-booked [] call causes.Gravity s.gravity.x s.gravity.y in
    let a = summed-append es (step_entries call s) in
    let b = summed-append gs (is ++ booked call causes.Clamp s.clamp.x s.clamp.y) in
    same_total _ _ (omega (arith, ints, same_x a, same_x b, same_x c, same_x i, same_x g)) (omega (arith, ints, same_y a, same_y b, same_y c, same_y i, same_y g))
