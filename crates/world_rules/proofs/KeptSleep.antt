-- Putting a mover's island to rest keeps a world: what the movers lose of their momentum is booked.
use Rattle.std.proofs.Common.{◌≡◌, ℕ, ◌+◌, ◌*◌, ◌<◌, ◌≤◌, ◌^◌, List, ◌++◌, length, Option, Some, None, Bool, true, false, cond, ℤ, ◌+ℤ◌, unsigned_abs, arith, refl, ◌∙◌}
use Rattle.std.specs.Prelude.{◌-ℤ◌}
use Rattle.std.proofs.lemmas.Int.{ints}
use Rattle.std.specs.Option.{option_map_or}
use Rattle.body_handles.specs.declared.slot_table.TheConstants.{MAX_SLOTS}
use Rattle.impulse_ledger.specs.declared.entry.Cause.TheVariants as causes
use Rattle.plain_world.specs.Constraints.{constraint_number}
use Rattle.plain_world.specs.declared.constraint.Constraint.{Constraint}
use Rattle.islands.specs.Labels.{Labels, is_asleep, is_loose, label_at}
use Rattle.islands.specs.declared.label.Label.{Label}
use Rattle.plain_world.specs.declared.body.Body.{Body}
use Rattle.plain_world.specs.Bodies.{AreBodies}
use Rattle.plain_world.specs.Momentum.{momentum}
use Rattle.plain_world.specs.Sleep.{told}
use Rattle.sleep_wake.specs.Acting.{Acting}
use Rattle.sleep_wake.proofs.LengthLemmas.{slept_long}
use Rattle.sleep_wake.specs.SleepPhase.{split_at}
use Rattle.sleep_wake.specs.Sleeping.{rested_at, slept_at, split_if_loose}
use Rattle.sleep_wake.specs.Waking.{put_to_rest}
use Rattle.world_rules.specs.Apply.{counted, gained, rest_entries}
use Rattle.world_rules.specs.Sets.{acting_of, with_acting}
use Rattle.world_rules.specs.World.{World}
use Rattle.world_rules.proofs.ActingLaws.{AreLists, IsActing, acted, kept_of, lists_kept}
use Rattle.world_rules.proofs.LowerLaws.{movers_stay, sleep_keeps}
use Rattle.world_rules.proofs.BookLemmas.{AreSmall-booked, AreSmall-weaker, summed-booked}
use Rattle.world_rules.proofs.KeptChanges.{consistent_later}
use Rattle.world_rules.proofs.KeptContacts.{contacts_of_same, has_bodies_same, joints_same, moves_alike}
use Rattle.world_rules.proofs.ShapeLaws.{filters_same}
use Rattle.world_rules.proofs.SlotLemmas.{AreMatched-same, momentum_le}
use Rattle.world_rules.proofs.SoundLaws.{IsKept}
use Rattle.world_rules.proofs.ToldLaws.{length_told, told_alike, told_are_bodies, told_same_shapes, told_same_slots, told_timers}

-- ---- what is booked

-- the momentum that is lost is small
pub record IsSmallRest (labels : Labels) (bodies : List (Option Body)) : Type 0 where
  pub x : unsigned_abs (gained bodies (told labels bodies)).x ≤ 2 ^ 77
  pub y : unsigned_abs (gained bodies (told labels bodies)).y ≤ 2 ^ 77

near : (a b : ℤ) (n : ℕ) → unsigned_abs a ≤ n * 2 ^ 60 → unsigned_abs b ≤ n * 2 ^ 60 → n ≤ 2 ^ 16 → unsigned_abs (a -ℤ b) ≤ 2 ^ 77
near a b n h k few = omega (arith, ints)

pub rest_small : (labels : Labels) (bodies : List (Option Body)) → AreBodies bodies → length bodies ≤ MAX_SLOTS → IsSmallRest labels bodies
rest_small labels bodies all few =
    let new : List (Option Body) = told labels bodies in
    let now : AreBodies new = told_are_bodies labels bodies all in
    let size : length new ≡ length bodies = length_told labels bodies in
    let after = momentum_le new now in
    let before = momentum_le bodies all in
    record {
      x = near (momentum new).x (momentum bodies).x (length bodies) (rw (← size) after.x) before.x few;
      y = near (momentum new).y (momentum bodies).y (length bodies) (rw (← size) after.y) before.y few;
    }

-- ---- a world with its bodies told, and what they lose booked

gained_total : (old new sum s : ℤ) → old ≡ sum +ℤ s → new ≡ (sum +ℤ (new -ℤ old)) +ℤ s
gained_total old new sum s h = omega (arith, ints)

lists_rested : (w : World) (s : Acting Constraint) → AreLists w → w.plain.calls < 2 ^ 40 → AreLists (record w { plain = counted (with_acting s w.plain); entries = w.entries ++ rest_entries (w.plain.calls + 1) s.labels w.plain.bodies })
lists_rested w s l few =
    let old = w.plain.bodies in
    let new = told s.labels old in
    let slots = told_same_slots s.labels old in
    let shapes = told_same_shapes s.labels old in
    let moves = moves_alike old new (told_alike s.labels old) slots in
    let small = rest_small s.labels old l.bodies l.matched.few in
    let call = w.plain.calls + 1 in
    let x = (gained old new).x in
    let y = (gained old new).y in
    let small_x = small.x in
    let small_y = small.y in
    record {
      total_x = rw (summed-booked w.entries call causes.Rest x y) (gained_total (momentum old).x (momentum new).x _ _ l.total_x);
      total_y = rw (summed-booked w.entries call causes.Rest x y) (gained_total (momentum old).y (momentum new).y _ _ l.total_y);
      causes = AreSmall-weaker (2 ^ 126 + w.plain.calls * 2 ^ 83 + 2 ^ 77) (2 ^ 126 + (w.plain.calls + 1) * 2 ^ 83) _ (omega arith)
          (AreSmall-booked (2 ^ 126 + w.plain.calls * 2 ^ 83) (2 ^ 77) 0 0 w.entries w.settled call causes.Rest x y l.causes small_x small_y);
      bodies = told_are_bodies s.labels old l.bodies;
      filters = filters_same old new shapes l.filters;
      timers = told_timers s.labels old w.plain.steps l.timers;
      matched = AreMatched-same w.plain.slot_entries old new slots l.matched;
      slot_entries = l.slot_entries;
      joint_slots = l.joint_slots;
      joint_entries = l.joint_entries;
      joints = joints_same old new w.plain.joints slots l.joints;
      contacts = l.contacts;
      pairs = contacts_of_same old new w.plain.contacts moves l.pairs;
      there = has_bodies_same old new w.plain.contacts slots (told_alike s.labels old) shapes l.there;
      gravity = l.gravity;
      steps = omega (arith, l.steps);
      calls = omega arith;
    }

-- lists with the constraints, islands and colours that go with them, whoever falls asleep
pub rest_put : (w : World) (s : Acting Constraint) → AreLists w → IsActing w.plain s → w.plain.calls < 2 ^ 40 → IsKept (record w { plain = counted (with_acting s w.plain); entries = w.entries ++ rest_entries (w.plain.calls + 1) s.labels w.plain.bodies })
rest_put w s l is few =
    let a = acted w.plain s l.bodies is in
    kept_of (record w { plain = counted (with_acting s w.plain); entries = w.entries ++ rest_entries (w.plain.calls + 1) s.labels w.plain.bodies })
    (lists_rested w s l few) (consistent_later (with_acting s w.plain) w.plain.gravity w.plain.steps (w.plain.calls + 1) a.consistent) a.tied a.told a.labels a.moved

-- ---- Sleep

rested_ties : (o : Option Label) (s : Acting Constraint) → (option_map_or (λ (l : Label). put_to_rest constraint_number l.name s) o s).ties ≡ s.ties
unfolding put_to_rest
rested_ties None s = refl
rested_ties (Some l) s = refl

split_ties : (l : Label) (s : Acting Constraint) → (split_if_loose l s).ties ≡ s.ties
unfolding split_at
split_ties l s = by (is_loose l.state)
  where
    by : (t : Bool) → (cond t (split_at l.name s) s).ties ≡ s.ties
    by true = refl
    by false = refl

-- putting to sleep leaves the constraints as they are
pub slept_ties : (slot : ℕ) (s : Acting Constraint) → (slept_at constraint_number slot s).ties ≡ s.ties
unfolding slept_at
slept_ties slot s = by_label (label_at s.labels slot)
  where
    by_sleep : (t : Bool) (l : Label) → (cond t s (rested_at constraint_number slot (split_if_loose l s))).ties ≡ s.ties
    by_sleep true l = refl
    by_sleep false l = rested_ties (label_at (split_if_loose l s).labels slot) (split_if_loose l s) ∙ split_ties l s

    by_label : (o : Option Label) → (option_map_or (λ (l : Label). cond (is_asleep l.state) s (rested_at constraint_number slot (split_if_loose l s))) o s).ties ≡ s.ties
    by_label None = refl
    by_label (Some l) = by_sleep (is_asleep l.state) l

-- the constraints and islands once a mover's island was put to rest
pub slept_acting : (w : World) (slot : ℕ) → IsKept w → IsActing w.plain (slept_at constraint_number slot (acting_of w.plain))
unfolding acting_of
slept_acting w slot k =
    let s = acting_of w.plain in
    record {
      consistent = sleep_keeps s slot k.consistent;
      ties = slept_ties slot s;
      tied = λ other. movers_stay.slept s slot k.consistent other ∙ k.tied other;
      long = slept_long constraint_number slot s ∙ k.labels;
    }

-- a mover's island is put to rest
pub sleep_kept : (w : World) (slot : ℕ) → IsKept w → w.plain.calls < 2 ^ 40 → let s : Acting Constraint = slept_at constraint_number slot (acting_of w.plain) in
    IsKept (record w { plain = counted (with_acting s w.plain); entries = w.entries ++ rest_entries (w.plain.calls + 1) s.labels w.plain.bodies })
sleep_kept w slot k few = rest_put w (slept_at constraint_number slot (acting_of w.plain)) (lists_kept w k) (slept_acting w slot k) few
