-- A sleep phase that looks at the awake movers alone: who they are, and who of them falls asleep.
use Rattle.std.proofs.Common.{◌≡◌, ℕ, zero, suc, ◌+◌, ◌<◌, ◌≤◌, ◌&&◌, Bool, true, false, not, cond, is_none, is_some, List, [], ◌∷◌, length, Contains, Option, Some, None, slice_get, slice_index_or, inl, inr, refl, sym, ap, ◌∙◌, subst, arith}
use Rattle.std.specs.List.Sorted.{IsStrictlyIncreasing}
use Rattle.std.proofs.lemmas.List.Kept.{AllPairs-from_increasing}
use Rattle.std.specs.Option.{option_map_or, option_flatten}
use Rattle.colour_solver.specs.States.{places_from}
use Rattle.colour_solver.proofs.PlaceLaws.{length-places}
use Rattle.contacts_base.proofs.Members.{Each, IsIn, each_from, each_in, in_from_contains}
use Rattle.contacts_base.proofs.Rising.{IsRising, increasing_from_rising}
use Rattle.plain_world.specs.Constraints.{constraint_number}
use Rattle.plain_world.specs.declared.constraint.Constraint.{Constraint}
use Rattle.contacts_base.specs.declared.contact.ContactEntry.{ContactEntry}
use Rattle.islands.specs.declared.label.Label.{Label}
use Rattle.islands.specs.Labels.{Labels, label_at, is_asleep}
use Rattle.plain_world.specs.declared.body.Body.{Body}
use Rattle.plain_world.specs.declared.joint.BodyJoint.{BodyJoint}
use Rattle.plain_world.specs.Bodies.{is_mover, is_mover_in}
use Rattle.plain_world.specs.Changes.{is_awake_in}
use Rattle.plain_world.specs.Slots.{body_at}
use Rattle.sleep_wake.specs.Acting.{Acting, IsConsistent}
use Rattle.sleep_wake.specs.Acting as acting
use Rattle.sleep_wake.specs.AwakeSlots.{AgreeAwake, AreAwakeSlots}
use Rattle.sleep_wake.specs.SleepPhase.{sleep_phase}
use Rattle.sleep_wake.proofs.AwakeLemmas.{and_is}
use Rattle.sleep_wake.proofs.PhaseLemmas.{not_is}
use Rattle.solver_sets.specs.BesideByTies.{ShowMoving}
use Rattle.solver_sets.specs.Beside.{is_beside_moving, timers_from, timers_of}
use Rattle.solver_sets.specs.Slept.{sleeps}
use Rattle.solver_sets.specs.SinceTold.{is_asleep_in, was_asleep}
use Rattle.solver_sets.specs.Tied.{AreTied}
use Rattle.world_rules.specs.Sound.{AreTold}
use Rattle.world_rules.proofs.ActingLaws.{name_awake}
use Rattle.world_rules.proofs.LowerLaws.{movers_stay}
use Rattle.world_rules.proofs.SlotLemmas.{body_at-in}
use Rattle.world_core.proofs.QuietSteps.{IsUpAt, mover_there, place_there, up_at}

-- ---- places ascend

abbrev AreFrom : ℕ → List ℕ → Type 0
AreFrom n xs = Each (λ (y : ℕ). n ≤ y) xs × IsRising xs

next_from : (n : ℕ) (t : Bool) (xs : List ℕ) → AreFrom (suc n) xs → AreFrom n (cond t (n ∷ xs) xs)
next_from n true xs h = (
  (omega arith, each_from (λ (y : ℕ). n ≤ y) xs (λ y i. let far : suc n ≤ y = each_in (λ (z : ℕ). suc n ≤ z) y xs h.0 i in omega (arith, far))),
  (each_from (λ (y : ℕ). n < y) xs (λ y i. let far : suc n ≤ y = each_in (λ (z : ℕ). suc n ≤ z) y xs h.0 i in omega (arith, far)), h.1),
)
next_from n false xs h = (each_from (λ (y : ℕ). n ≤ y) xs (λ y i. let far : suc n ≤ y = each_in (λ (z : ℕ). suc n ≤ z) y xs h.0 i in omega (arith, far)), h.1)

places_rise : {X : Type 0} (is : X → Bool) (n : ℕ) (xs : List X) → AreFrom n (places_from is n xs)
places_rise is n [] = (tt, tt)
places_rise is n (x ∷ xs) = next_from n (is x) (places_from is (suc n) xs) (places_rise is (suc n) xs)

pub awake_rises : (bodies : List (Option Body)) (awake : List ℕ) → awake ≡ places_from is_awake_in 0 bodies → IsStrictlyIncreasing awake
awake_rises bodies awake e = subst IsStrictlyIncreasing (sym e) (increasing_from_rising (places_from is_awake_in 0 bodies) (places_rise is_awake_in 0 bodies).1)

pub awake_few : (bodies : List (Option Body)) (awake : List ℕ) (room : ℕ) → awake ≡ places_from is_awake_in 0 bodies → length bodies ≤ room → length awake ≤ room
awake_few bodies awake room e enough =
    let few : length (places_from is_awake_in 0 bodies) ≤ length bodies = length-places is_awake_in bodies 0 in
    let long : length awake ≡ length (places_from is_awake_in 0 bodies) = ap (λ (l : List ℕ). length l) e in
    omega (arith, few, long, enough)

-- ---- who is at a place

-- who passes the test stands there
record IsPlaced {X : Type 0} (is : X → Bool) (xs : List X) (k : ℕ) : Type 0 where
  of : X
  there : slice_get xs k ≡ Some of
  on : is of ≡ true

-- where the list begins with the slot n
record IsPlacedFrom {X : Type 0} (is : X → Bool) (n : ℕ) (xs : List X) (m : ℕ) : Type 0 where
  k : ℕ
  counts : m ≡ n + k
  placed : IsPlaced is xs k

one_on : {X : Type 0} (is : X → Bool) (n : ℕ) (x : X) (xs : List X) (m : ℕ) → IsPlacedFrom is (suc n) xs m → IsPlacedFrom is n (x ∷ xs) m
one_on is n x xs m h = record { k = suc h.k; counts = let c = h.counts in omega (arith, c); placed = record { of = h.placed.of; there = h.placed.there; on = h.placed.on } }

placed_by : {X : Type 0} (is : X → Bool) (n : ℕ) (x : X) (xs : List X) (m : ℕ) (t : Bool) (places : List ℕ) → is x ≡ t → IsIn m (cond t (n ∷ places) places) → (IsIn m places → IsPlacedFrom is (suc n) xs m) → IsPlacedFrom is n (x ∷ xs) m
placed_by is n x xs m true places e h rest = elim h [
  | inl here ↦ record { k = zero; counts = omega (arith, here); placed = record { of = x; there = refl; on = e } }
  | inr later ↦ one_on is n x xs m (rest later)
]
placed_by is n x xs m false places e h rest = one_on is n x xs m (rest h)

placed_from : {X : Type 0} (is : X → Bool) (n : ℕ) (xs : List X) (m : ℕ) → IsIn m (places_from is n xs) → IsPlacedFrom is n xs m
placed_from is n [] m h = absurd h
placed_from is n (x ∷ xs) m h = placed_by is n x xs m (is x) (places_from is (suc n) xs) refl h (placed_from is (suc n) xs m)

-- ---- the awake movers

both_true : (m : Bool) (a : Option ℕ) → cond m (is_none a) false ≡ true → (m ≡ true) × (a ≡ None)
both_true true None e = (refl, refl)
both_true true (Some name) e = cc
both_true false a e = cc

awake_label_at : (labels : Labels) (bodies : List (Option Body)) (slot : ℕ) (o : Option Body) → AreTied bodies labels → AreTold bodies labels → slice_get bodies slot ≡ Some o → is_awake_in o ≡ true → acting.is_mover_awake labels slot ≡ true
awake_label_at labels bodies slot None tied are at on = cc
awake_label_at labels bodies slot (Some b) tied are at on =
    let there : body_at bodies slot ≡ Some b = at_body (slice_get bodies slot) at in
    let both = both_true (is_mover b) b.asleep on in
    name_awake (label_at labels slot) (tied slot ∙ ap is_mover_in there ∙ both.0) (sym (are slot b there) ∙ both.1)
  where
    at_body : (o : Option (Option Body)) → o ≡ Some (Some b) → option_flatten o ≡ Some b
    at_body None e = cc
    at_body (Some p) e = cc

-- they are the movers whose labels are awake
pub awake_slots : (labels : Labels) (bodies : List (Option Body)) (awake : List ℕ) → awake ≡ places_from is_awake_in 0 bodies → AreTied bodies labels → AreTold bodies labels → AreAwakeSlots labels awake
awake_slots labels bodies awake e tied are = record {
  rising = AllPairs-from_increasing awake (awake_rises bodies awake e);
  each = λ slot. (
    λ listed. let it = placed_from is_awake_in 0 bodies slot (in_from_contains (places_from is_awake_in 0 bodies) slot (subst (λ (l : List ℕ). Contains l slot) e listed)) in
        let same : it.k ≡ slot = let c = it.counts in omega (arith, c) in
        awake_label_at labels bodies slot it.placed.of tied are (sym (ap (slice_get bodies) same) ∙ it.placed.there) it.placed.on,
    λ up. subst (λ (l : List ℕ). Contains l slot) (sym e) (listed_up labels bodies slot tied are up),
  );
}
  where
    listed_up : (labels : Labels) (bodies : List (Option Body)) (slot : ℕ) → AreTied bodies labels → AreTold bodies labels → acting.is_mover_awake labels slot ≡ true → Contains (places_from is_awake_in 0 bodies) slot
    listed_up labels bodies slot tied are up =
        let it : IsUpAt bodies slot = up_at labels bodies slot tied are up in
        place_there is_awake_in bodies 0 slot slot (Some it.body) (omega arith) (body_at-in bodies slot it.body it.there) it.up

-- ---- who falls asleep

-- the phase leaves the movers that there are
pub tied_rested : (timers : List ℕ) (bodies : List (Option Body)) (s new : Acting Constraint) → IsConsistent constraint_number s → AreTied bodies s.labels → new ≡ sleep_phase constraint_number timers s → AreTied bodies new.labels
tied_rested timers bodies s new consistent tied e = subst (λ (a : Acting Constraint). AreTied bodies a.labels) (sym e) (λ slot. movers_stay.phase s timers consistent slot ∙ tied slot)

asleep_there : (o : Option Label) → option_map_or (λ (label : Label). is_asleep label.state) o false ≡ true → is_some o ≡ true
asleep_there None e = cc
asleep_there (Some l) e = refl

none_of : (a : Option ℕ) → is_some a ≡ false → is_none a ≡ true
none_of None e = refl
none_of (Some name) e = cc

both_on : (t u : Bool) → t ≡ true → u ≡ true → cond t u false ≡ true
both_on true true e f = refl
both_on false u e f = cc
both_on true false e f = cc

-- who does was awake before
pub newly_asleep_awake : (bodies : List (Option Body)) (labels : Labels) (awake : List ℕ) → awake ≡ places_from is_awake_in 0 bodies → AreTied bodies labels → (slot : ℕ) → (sleeps labels slot && not (was_asleep bodies slot)) ≡ true → Contains awake slot
newly_asleep_awake bodies labels awake e tied slot on =
    let both = and_is (sleeps labels slot) (not (was_asleep bodies slot)) on in
    let there = mover_there (body_at bodies slot) (sym (tied slot) ∙ asleep_there (label_at labels slot) both.0) in
    let up : is_none there.0.asleep ≡ true = none_of there.0.asleep (sym (ap is_asleep_in there.1) ∙ not_is (was_asleep bodies slot) both.1) in
    subst (λ (l : List ℕ). Contains l slot) (sym e) (place_there is_awake_in bodies 0 slot slot (Some there.0) (omega arith) (body_at-in bodies slot there.0 there.1) (both_on (is_mover there.0) (is_none there.0.asleep) there.2 up))

-- ---- timers

timers_long : (beside : ℕ → Bool) (n : ℕ) (bodies : List (Option Body)) → length (timers_from beside n bodies) ≡ length bodies
timers_long beside n [] = refl
timers_long beside n (o ∷ bodies) = ap suc (timers_long beside (suc n) bodies)

pub timers_agree : (bodies : List (Option Body)) (joints : List (Option BodyJoint)) (contacts : List ContactEntry) (labels : Labels) (timers : List ℕ) → length timers ≡ length bodies
    → ((slot : ℕ) → acting.is_mover_awake labels slot ≡ true → slice_index_or timers slot 0 ≡ slice_index_or (timers_of bodies joints contacts) slot 0) → AgreeAwake labels timers (timers_of bodies joints contacts)
unfolding timers_of
timers_agree bodies joints contacts labels timers len same = record { size = len ∙ sym (timers_long (is_beside_moving bodies joints contacts) 0 bodies); same = same }

-- the phase by the awake movers' timers is the phase by all
pub phase_by_awake : (bodies : List (Option Body)) (joints : List (Option BodyJoint)) (contacts : List ContactEntry) (s new : Acting Constraint) (awake timers : List ℕ) → awake ≡ places_from is_awake_in 0 bodies → AreTied bodies s.labels → AreTold bodies s.labels → length timers ≡ length bodies
    → ShowMoving bodies joints contacts s.labels s.lists
    → ((labels : Labels) (es : List ContactEntry) → ShowMoving bodies joints es labels s.lists → (slot : ℕ) → acting.is_mover_awake labels slot ≡ true → Contains awake slot → slice_index_or timers slot 0 ≡ slice_index_or (timers_of bodies joints es) slot 0)
    → ((all : List ℕ) → AgreeAwake s.labels timers all → new ≡ sleep_phase constraint_number all s) → new ≡ sleep_phase constraint_number (timers_of bodies joints contacts) s
phase_by_awake bodies joints contacts s new awake timers e tied are len tells same phase =
    let slots : AreAwakeSlots s.labels awake = awake_slots s.labels bodies awake e tied are in
    phase (timers_of bodies joints contacts) (timers_agree bodies joints contacts s.labels timers len (λ slot up. same s.labels contacts tells slot up ((slots.each slot).1 up)))
