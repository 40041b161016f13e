-- A step keeps a world: the collide, the ticks and the sleep phase.
use Rattle.std.proofs.Common.{◌≡◌, ℕ, zero, suc, ◌+◌, ◌*◌, ◌<◌, ◌≤◌, ◌^◌, List, [], ◌∷◌, ◌++◌, length, map, Option, Some, None, false, All, is_some, ℤ, ◌+ℤ◌, arith, refl, sym, ap, ◌∙◌, subst}
use Rattle.std.specs.Prelude.{◌-ℤ◌, fold}
use Rattle.std.proofs.lemmas.Int.{ints}
use Rattle.std.proofs.lemmas.List.Elements.{All-weaker}
use Rattle.fixed_geom.specs.Vectors.{plus}
use Rattle.body_handles.specs.declared.slot_table.SlotEntry.{SlotEntry}
use Rattle.contacts_base.specs.declared.contact.ContactEntry.{ContactEntry}
use Rattle.contacts_base.specs.Contacts.{AreKeysRising}
use Rattle.plain_world.specs.Constraints.{constraint_number}
use Rattle.plain_world.specs.declared.constraint.Constraint.{Constraint}
use Rattle.colour_solver.specs.declared.ticks.StepSums.{StepSums}
use Rattle.colour_solver.specs.Ticks.{AreSums, added}
use Rattle.event_feed.specs.Events.{EventLists}
use Rattle.colour_solver.proofs.VectorLaws.{same_x, same_y}
use Rattle.plain_world.specs.declared.body.Body.{Body}
use Rattle.plain_world.specs.declared.joint.BodyJoint.{BodyJoint}
use Rattle.plain_world.specs.Bodies.{AreBodies}
use Rattle.plain_world.specs.Momentum.{momentum}
use Rattle.plain_world.specs.Joints.{AreJoints}
use Rattle.plain_world.specs.Plain.{Plain}
use Rattle.plain_world.specs.Sleep.{timed_bodies, told}
use Rattle.plain_world.specs.Slots.{AreMatched, item_at}
use Rattle.plain_world.specs.InSlots.{HaveSameSlots}
use Rattle.sleep_wake.proofs.LengthLemmas.{phase_long, after_changes_long}
use Rattle.sleep_wake.specs.Acting.{Acting, IsConsistent}
use Rattle.sleep_wake.specs.Changes.{after_changes}
use Rattle.sleep_wake.specs.SleepPhase.{picked_to_split, ready, sleep_phase, split_at, split_picked}
use Rattle.sleep_wake.specs.Waking.{put_to_rest}
use Rattle.sleep_wake.specs.declared.change.Change.{Change}
use Rattle.solver_sets.specs.Beside.{timers_of}
use Rattle.solver_sets.specs.Alike.{AreAlike, AreJointSlots, HaveSameEnds, ends_in}
use Rattle.solver_sets.specs.Ties.{IsKeyWithin, JointSlots, key_changes, slots_of, ties_of, touching_keys}
use Rattle.world_core_base.specs.ContactBodies.{AreContactsOf}
use Rattle.world_core_base.specs.Renewal.{renewed_bodies}
use Rattle.world_core_base.specs.Solving.{Solving, bodies_of}
use Rattle.world_rules.specs.Apply.{bodies_ticked, events_of, gained, rest_entries, rested_acting, step_entries, step_solved, acting_after_changes, world_with}
use Rattle.world_rules.specs.Collide.{Collided, collided}
use Rattle.world_rules.specs.Sets.{acting_of, with_acting}
use Rattle.world_rules.specs.Sound.{AreTimers, HasBodies}
use Rattle.world_rules.specs.World.{World, joints_in_slots}
use Rattle.world_rules.proofs.ActingLaws.{AreLists, IsActing, acted, awake_put, kept_of, stay_awake}
use Rattle.world_rules.proofs.LowerLaws.{alike_bodies_keep_ties, awake_stay_awake, impulses_keep_ties, keys_can_change, keys_change, movers_stay, same_ids_same_ties, same_touching_keep_ties, sleep_phase_keeps, ties_have_labels, ties_rise, changes_lead_to}
use Rattle.world_rules.proofs.BookLemmas.{AreSmall-weaker}
use Rattle.world_rules.proofs.ChangeLemmas.{tied_alike}
use Rattle.world_rules.proofs.KeptContacts.{contacts_of_same, has_bodies_same, joints_same, moves_alike}
use Rattle.world_rules.proofs.KeptSleep.{IsSmallRest, rest_small}
use Rattle.world_rules.proofs.PairLaws.{contacts_of_after, has_bodies_after}
use Rattle.world_rules.proofs.ShapeLaws.{HaveSameShapes, filters_same, shapes_then}
use Rattle.world_rules.proofs.SlotLemmas.{AreMatched-same}
use Rattle.world_rules.proofs.SoundLaws.{IsKept}
use Rattle.world_rules.proofs.StepBook.{AreSmall-stepped, summed-stepped}
use Rattle.world_rules.proofs.TickedLaws.{alike_then, slots_then, timed_alike, timed_are_bodies, timed_momentum, timed_same_shapes, timed_same_slots, timed_timers}
use Rattle.world_rules.proofs.ToldLaws.{NobodyFallsAsleep, told_alike, told_are_bodies, told_same_shapes, told_same_slots, told_timers}

-- ---- the collide

-- what the collide of a world finds
abbrev pub collided_in : World → Collided
collided_in w = collided w.plain.bodies w.plain.joints w.plain.contacts

-- the constraints, islands and colours once all that begins and ends had its turn
abbrev pub changed_in : World → Acting Constraint
changed_in w = acting_after_changes w.plain (collided_in w)

-- the world with the contacts that the collide finds
abbrev pub with_contacts : World → World
with_contacts w = record w { plain = record w.plain { contacts = (collided_in w).now } }

-- the world as the ticks find it
abbrev pub collided_world : World → World
collided_world w = record w { plain = with_acting (changed_in w) (with_contacts w).plain }

joint_slots : (w : World) → IsKept w → AreJointSlots (joints_in_slots w.plain)
joint_slots w k = record { matched = k.joint_slots; slot_entries = k.joint_entries }

named : (bodies : List (Option Body)) (contacts : List ContactEntry) → All (HasBodies bodies) contacts → All (λ (e : ContactEntry). IsKeyWithin e.key) contacts
named bodies contacts there = All-weaker (HasBodies bodies) (λ e. IsKeyWithin e.key) (λ e h. h.named) contacts there

new_contacts : (w : World) → IsKept w → All (HasBodies w.plain.bodies) (collided_in w).now
new_contacts w k = has_bodies_after w.plain.bodies w.plain.joints w.plain.contacts k.bodies k.matched.few k.there

-- they are consistent, and the constraints are those of the new contacts
abbrev IsAfterChanges : World → Acting Constraint → Type 0
IsAfterChanges w s = IsConsistent constraint_number s × (s.ties ≡ ties_of w.plain.bodies (joints_in_slots w.plain) (collided_in w).now)

changed_into : (w : World) → IsKept w → AreKeysRising (collided_in w).now → IsAfterChanges w (changed_in w)
unfolding acting_of
changed_into w k rises =
    let bodies : List (Option Body) = w.plain.bodies in
    let js : JointSlots = joints_in_slots w.plain in
    let old : List ContactEntry = w.plain.contacts in
    let now : List ContactEntry = (collided_in w).now in
    let s : Acting Constraint = acting_of w.plain in
    let slots : AreJointSlots js = joint_slots w k in
    let are = keys_change bodies js old now slots k.contacts rises (named bodies old k.there) (named bodies now (new_contacts w k)) in
    let into = changes_lead_to s (ties_of bodies js now) k.consistent (ties_rise bodies js now slots rises)
    (λ x y. same_ids_same_ties bodies js old now x y slots (named bodies old k.there) (named bodies now (new_contacts w k)))
    (λ m h. ties_have_labels bodies js now w.plain.islands m k.tied h) in
    subst (λ (changes : List (Change Constraint)). IsAfterChanges w (after_changes constraint_number changes s)) (sym are) into

acting_after_changes_is : (w : World) → IsKept w → AreKeysRising (collided_in w).now → IsActing (with_contacts w).plain (changed_in w)
unfolding acting_of
acting_after_changes_is w k rises =
    let into = changed_into w k rises in
    record {
      consistent = into.0;
      ties = into.1;
      tied = λ slot. movers_stay.after_changes (acting_of w.plain) (key_changes w.plain.bodies (collided_in w).begin (collided_in w).end) slot ∙ k.tied slot;
      long = after_changes_long constraint_number (key_changes w.plain.bodies (collided_in w).begin (collided_in w).end) (acting_of w.plain) ∙ k.labels;
    }

changed_awake : (w : World) → IsKept w → AreKeysRising (collided_in w).now → NobodyFallsAsleep w.plain.bodies (changed_in w).labels
unfolding acting_of
changed_awake w k rises =
    let changes = key_changes w.plain.bodies (collided_in w).begin (collided_in w).end in
    let can = keys_can_change w.plain.bodies (joints_in_slots w.plain) w.plain.contacts (collided_in w).now w.plain.islands (joint_slots w k) k.contacts rises (named w.plain.bodies w.plain.contacts k.there) (named w.plain.bodies (collided_in w).now (new_contacts w k)) k.tied in
    stay_awake w.plain.bodies w.plain.islands (changed_in w).labels k.tied k.told (awake_stay_awake.after_changes (acting_of w.plain) changes k.consistent can)

lists_collided : (w : World) → IsKept w → AreKeysRising (collided_in w).now → AreLists (with_contacts w)
lists_collided w k rises = record {
  total_x = k.total_x;
  total_y = k.total_y;
  causes = k.causes;
  bodies = k.bodies;
  filters = k.filters;
  timers = k.timers;
  matched = k.matched;
  slot_entries = k.slot_entries;
  joint_slots = k.joint_slots;
  joint_entries = k.joint_entries;
  joints = k.joints;
  contacts = rises;
  pairs = contacts_of_after w.plain.bodies w.plain.joints w.plain.contacts k.bodies k.pairs;
  there = new_contacts w k;
  gravity = k.gravity;
  steps = k.steps;
  calls = k.calls;
}

-- what is known of the world as the ticks find it
pub record IsCollided (w : World) : Type 0 where
  pub kept : IsKept (collided_world w)
  pub acting : acting_of (collided_world w).plain ≡ changed_in w

pub collide_kept : (w : World) → IsKept w → AreKeysRising (collided_in w).now → IsCollided w
collide_kept w k rises =
    let is = acting_after_changes_is w k rises in
    record {
      kept = awake_put (with_contacts w) (changed_in w) (lists_collided w k rises) is (changed_awake w k rises);
      acting = (acted (with_contacts w).plain (changed_in w) k.bodies is).acting;
    }

-- ---- the ticks

-- what the ticks leave of a world's bodies, joints and contacts, and what they add to the movers' momentum
pub record IsTicked (w : Plain) (new : List (Option Body)) (js : List (Option BodyJoint)) (es : List ContactEntry) (sums : StepSums) : Type 0 where
  pub bodies : AreBodies new
  pub slots : HaveSameSlots w.bodies new
  pub shapes : HaveSameShapes w.bodies new
  pub alike : AreAlike w.bodies new
  pub timers : AreTimers w.steps new
  pub small : AreSums (2 ^ 83) sums
  pub gain : momentum new ≡ plus (momentum w.bodies) (added sums)
  pub joints : AreJoints w.bodies js
  pub ends : HaveSameEnds w.joints js
  pub rising : AreKeysRising es
  pub pairs : AreContactsOf w.bodies es
  pub there : All (HasBodies w.bodies) es
  pub touching : touching_keys es ≡ touching_keys w.contacts

-- joints of the same ends are in the same slots
ends_there : (o : Option BodyJoint) → is_some (ends_in o) ≡ is_some o
ends_there None = refl
ends_there (Some j) = refl

ends_at : (joints : List (Option BodyJoint)) (slot : ℕ) → is_some (item_at (map ends_in joints) slot) ≡ is_some (item_at joints slot)
ends_at [] slot = refl
ends_at (o ∷ os) zero = ends_there o
ends_at (o ∷ os) (suc slot) = ends_at os slot

length-ends : (joints : List (Option BodyJoint)) → length (map ends_in joints) ≡ length joints
length-ends [] = refl
length-ends (o ∷ os) = ap suc (length-ends os)

matched_ends : (slot_entries : List SlotEntry) (old new : List (Option BodyJoint)) → HaveSameEnds old new → AreMatched slot_entries old → AreMatched slot_entries new
matched_ends slot_entries old new same m =
    let long : length new ≡ length old = sym (length-ends new) ∙ ap length same ∙ length-ends old in
    record {
      slots = m.slots ∙ sym long;
      few = rw long m.few;
      taken = λ slot. sym (ends_at new slot) ∙ ap (λ (l : List (Option (ℕ × ℕ))). is_some (item_at l slot)) same ∙ ends_at old slot ∙ m.taken slot;
    }

-- no tie sees what the ticks have changed
ticked_ties : (w : Plain) (new bodies : List (Option Body)) (joints : List (Option BodyJoint)) (contacts : List ContactEntry) (sums : StepSums) → AreAlike w.bodies new → IsTicked w bodies joints contacts sums
    → ties_of new (slots_of w.joint_entries joints) contacts ≡ ties_of w.bodies (joints_in_slots w) w.contacts
ticked_ties w new bodies joints contacts sums alike t =
    alike_bodies_keep_ties w.bodies new (slots_of w.joint_entries joints) contacts alike
    ∙ impulses_keep_ties w.bodies (joints_in_slots w) (slots_of w.joint_entries joints) contacts refl t.ends
    ∙ same_touching_keep_ties w.bodies (joints_in_slots w) w.contacts contacts t.touching

-- ---- the sleep phase

split_ties : (o : Option ℕ) (s : Acting Constraint) → (split_picked o s).ties ≡ s.ties
unfolding split_at
split_ties None s = refl
split_ties (Some name) s = refl

rested_one : (name : ℕ) (s : Acting Constraint) → (put_to_rest constraint_number name s).ties ≡ s.ties
unfolding put_to_rest
rested_one name s = refl

rested_ties : (names : List ℕ) (s : Acting Constraint) → (fold (λ now name. put_to_rest constraint_number name now) s names).ties ≡ s.ties
rested_ties [] s = refl
rested_ties (name ∷ names) s = rested_ties names (put_to_rest constraint_number name s) ∙ rested_one name s

-- the sleep phase leaves the constraints as they are
pub phase_ties : (timers : List ℕ) (s : Acting Constraint) → (sleep_phase constraint_number timers s).ties ≡ s.ties
phase_ties timers s =
    let split : Acting Constraint = split_picked (picked_to_split s.labels timers) s in
    rested_ties (ready false split.labels timers) split ∙ split_ties (picked_to_split s.labels timers) s

-- ---- the world that a step leaves

-- the lists after the ticks, with the timers as they are then
abbrev pub ticked : Plain → ℕ → List (Option Body) → List (Option BodyJoint) → List ContactEntry → Plain
ticked w n bodies joints contacts = record w { bodies = timed_bodies n bodies; joints = joints; contacts = contacts; steps = w.steps + 1; calls = w.calls + 1 }

-- who acts after the sleep phase
abbrev pub rested_after : Plain → ℕ → List (Option Body) → List (Option BodyJoint) → List ContactEntry → Acting Constraint
rested_after w n bodies joints contacts = rested_acting (timed_bodies n bodies) joints contacts (acting_of w)

ticked_alike : (w : Plain) (n : ℕ) (bodies : List (Option Body)) (joints : List (Option BodyJoint)) (contacts : List ContactEntry) (sums : StepSums) → IsTicked w bodies joints contacts sums → AreAlike w.bodies (timed_bodies n bodies)
ticked_alike w n bodies joints contacts sums t = alike_then w.bodies bodies (timed_bodies n bodies) t.alike (timed_alike n bodies)

pub rested_is : (w : World) (n : ℕ) (bodies : List (Option Body)) (joints : List (Option BodyJoint)) (contacts : List ContactEntry) (sums : StepSums) → IsKept w → IsTicked w.plain bodies joints contacts sums
    → IsActing (ticked w.plain n bodies joints contacts) (rested_after w.plain n bodies joints contacts)
unfolding acting_of
rested_is w n bodies joints contacts sums k t =
    let s : Acting Constraint = acting_of w.plain in
    let timers : List ℕ = timers_of (timed_bodies n bodies) joints contacts in
    let alike = ticked_alike w.plain n bodies joints contacts sums t in
    record {
      consistent = sleep_phase_keeps s timers k.consistent;
      ties = phase_ties timers s ∙ sym (ticked_ties w.plain (timed_bodies n bodies) bodies joints contacts sums alike t);
      tied = λ slot. movers_stay.phase s timers k.consistent slot ∙ tied_alike w.plain.bodies (timed_bodies n bodies) w.plain.islands alike k.tied slot;
      long = phase_long constraint_number timers s ∙ k.labels ∙ sym (slots_then w.plain.bodies bodies (timed_bodies n bodies) t.slots (timed_same_slots n bodies)).slots;
    }

-- what is booked is what the momentum has gained
gained_total : (old bodies timed new sum added settled : ℤ) → old ≡ sum +ℤ settled → bodies ≡ old +ℤ added → timed ≡ bodies → new ≡ ((sum +ℤ added) +ℤ (new -ℤ timed)) +ℤ settled
gained_total old bodies timed new sum added settled h k e = omega (arith, ints, h, k, e)

lists_stepped : (w : World) (n : ℕ) (bodies : List (Option Body)) (joints : List (Option BodyJoint)) (contacts : List ContactEntry) (sums : StepSums) (s : Acting Constraint) (events : EventLists) → IsKept w → w.plain.calls < 2 ^ 40 → n ≤ 8
    → IsTicked w.plain bodies joints contacts sums
    → AreLists (record w { plain = with_acting s (ticked w.plain n bodies joints contacts); entries = w.entries ++ (step_entries (w.plain.calls + 1) sums ++ rest_entries (w.plain.calls + 1) s.labels (timed_bodies n bodies)); events = events })
lists_stepped w n bodies joints contacts sums s events k few ticks t =
    let old : List (Option Body) = w.plain.bodies in
    let timed : List (Option Body) = timed_bodies n bodies in
    let new : List (Option Body) = told s.labels timed in
    let are : AreBodies timed = timed_are_bodies n bodies t.bodies in
    let so_far : HaveSameSlots old timed = slots_then old bodies timed t.slots (timed_same_slots n bodies) in
    let slots : HaveSameSlots old new = slots_then old timed new so_far (told_same_slots s.labels timed) in
    let shapes : HaveSameShapes old new = shapes_then old timed new (shapes_then old bodies timed t.shapes (timed_same_shapes n bodies)) (told_same_shapes s.labels timed) in
    let alike : AreAlike old new = alike_then old timed new (ticked_alike w.plain n bodies joints contacts sums t) (told_alike s.labels timed) in
    let moves = moves_alike old new alike slots in
    let small : IsSmallRest s.labels timed = rest_small s.labels timed are (rw so_far.slots k.matched.few) in
    let call : ℕ = w.plain.calls + 1 in
    let x : ℤ = (gained timed new).x in
    let y : ℤ = (gained timed new).y in
    let small_x = small.x in
    let small_y = small.y in
    record {
      total_x = rw (summed-stepped w.entries call sums x y) (gained_total (momentum old).x (momentum bodies).x (momentum timed).x (momentum new).x _ (added sums).x _ k.total_x (same_x t.gain) (same_x (timed_momentum n bodies)));
      total_y = rw (summed-stepped w.entries call sums x y) (gained_total (momentum old).y (momentum bodies).y (momentum timed).y (momentum new).y _ (added sums).y _ k.total_y (same_y t.gain) (same_y (timed_momentum n bodies)));
      causes = AreSmall-weaker (2 ^ 126 + w.plain.calls * 2 ^ 83 + 2 ^ 83) (2 ^ 126 + (w.plain.calls + 1) * 2 ^ 83) _ (omega arith)
          (AreSmall-stepped (2 ^ 126 + w.plain.calls * 2 ^ 83) (2 ^ 83) w.entries w.settled call sums x y t.small (omega (arith, small_x)) (omega (arith, small_y)) k.causes);
      bodies = told_are_bodies s.labels timed are;
      filters = filters_same old new shapes k.filters;
      timers = told_timers s.labels timed (w.plain.steps + 1) (timed_timers n bodies w.plain.steps ticks t.timers);
      matched = AreMatched-same w.plain.slot_entries old new slots k.matched;
      slot_entries = k.slot_entries;
      joint_slots = matched_ends w.plain.joint_entries w.plain.joints joints t.ends k.joint_slots;
      joint_entries = k.joint_entries;
      joints = joints_same old new joints slots t.joints;
      contacts = t.rising;
      pairs = contacts_of_same old new contacts moves t.pairs;
      there = has_bodies_same old new contacts slots alike shapes t.there;
      gravity = k.gravity;
      steps = omega (arith, k.steps);
      calls = omega arith;
    }

-- the ticks and the sleep phase keep a world
pub ticked_kept : (w : World) (n : ℕ) (bodies : List (Option Body)) (joints : List (Option BodyJoint)) (contacts : List ContactEntry) (sums : StepSums) (s : Acting Constraint) (events : EventLists) → IsKept w → w.plain.calls < 2 ^ 40 → n ≤ 8
    → IsTicked w.plain bodies joints contacts sums → s ≡ rested_after w.plain n bodies joints contacts
    → IsKept (record w { plain = with_acting s (ticked w.plain n bodies joints contacts); entries = w.entries ++ (step_entries (w.plain.calls + 1) sums ++ rest_entries (w.plain.calls + 1) s.labels (timed_bodies n bodies)); events = events })
ticked_kept w n bodies joints contacts sums s events k few ticks t e =
    let after : Plain = ticked w.plain n bodies joints contacts in
    let is : IsActing after s = subst (IsActing after) (sym e) (rested_is w n bodies joints contacts sums k t) in
    let a = acted after s (timed_are_bodies n bodies t.bodies) is in
    kept_of (record w { plain = with_acting s after; entries = w.entries ++ (step_entries (w.plain.calls + 1) sums ++ rest_entries (w.plain.calls + 1) s.labels (timed_bodies n bodies)); events = events })
    (lists_stepped w n bodies joints contacts sums s events k few ticks t) a.consistent a.tied a.told a.labels a.moved

-- ---- the whole step

-- The collide, the ticks, of which the bodies, the joints, the contacts and the sums are known, and the sleep phase.
pub step_kept : (w : World) (n : ℕ) (bodies : List (Option Body)) (joints : List (Option BodyJoint)) (contacts : List ContactEntry) (sums : StepSums) (events : EventLists) → IsKept w → w.plain.calls < 2 ^ 40 → n ≤ 8
    → AreKeysRising (collided_in w).now → IsTicked (collided_world w).plain bodies joints contacts sums
    → let s : Acting Constraint = rested_acting (timed_bodies n bodies) joints contacts (changed_in w) in
    IsKept (record w { plain = with_acting s (ticked (collided_world w).plain n bodies joints contacts); entries = w.entries ++ (step_entries (w.plain.calls + 1) sums ++ rest_entries (w.plain.calls + 1) s.labels (timed_bodies n bodies)); events = events })
step_kept w n bodies joints contacts sums events k few ticks rises t =
    let is = collide_kept w k rises in
    let same : rested_acting (timed_bodies n bodies) joints contacts (changed_in w) ≡ rested_after (collided_world w).plain n bodies joints contacts = ap (rested_acting (timed_bodies n bodies) joints contacts) (sym is.acting) in
    ticked_kept (collided_world w) n bodies joints contacts sums (rested_acting (timed_bodies n bodies) joints contacts (changed_in w)) events is.kept few ticks t same

-- the same as the rules say it, of whatever the ticks have left
pub step_solved_kept : (w : World) (n : ℕ) (s : Solving) → IsKept w → w.plain.calls < 2 ^ 40 → n ≤ 8 → AreKeysRising (collided_in w).now
    → IsTicked (collided_world w).plain (renewed_bodies (bodies_of s)) s.joints s.contacts s.sums → IsKept (world_with w (step_solved w.plain n (collided_in w) (changed_in w) s))
step_solved_kept w n s k few ticks rises t =
    let rested : Acting Constraint = rested_acting (bodies_ticked n s) s.joints s.contacts (changed_in w) in
    step_kept w n (renewed_bodies (bodies_of s)) s.joints s.contacts s.sums (events_of w.plain (collided_in w) (changed_in w).labels rested.labels) k few ticks rises t
