-- A step's calls, one after another: what each asks for, and that what they leave together is the world that is due.
use Rattle.std.proofs.Common.{◌≡◌, ℕ, zero, suc, ◌+◌, ◌<◌, ◌≤◌, ◌^◌, ◌++◌, Bool, true, false, cond, is_some, All, List, [], ◌∷◌, length, map, take, Option, Some, None, Result, Ok, Err, ℤ, pos, unsigned_abs, refl, sym, ap, ◌∙◌, subst, arith}
use Rattle.std.specs.Result.{IsErr, IsErrAnd}
use Rattle.std.proofs.lemmas.List.Elements.{All-contains}
use Rattle.fixed_geom.specs.Vectors.{plus}
use Rattle.fixed_geom.specs.declared.vectors.Vec2.{Vec2}
use Rattle.fixed_geom.specs.declared.refusal.Refusal.{Refusal}
use Rattle.fixed_geom.specs.declared.refusal.Refusal.TheVariants.{NoMemory, OutOfRange}
use Rattle.std.specs.List.Sorted.{IsStrictlyIncreasing}
use Rattle.body_handles.specs.declared.handle.Handle.{Handle}
use Rattle.body_handles.specs.declared.slot_table.SlotEntry.{SlotEntry}
use Rattle.body_handles.specs.declared.slot_table.TheConstants.{MAX_SLOTS}
use Rattle.colour_solver.specs.declared.ticks.StepSums.{StepSums}
use Rattle.colour_solver.specs.Ticks.{AreSums, Run, added, ran, start}
use Rattle.plain_world.specs.Constraints.{constraint_number}
use Rattle.plain_world.specs.declared.constraint.Constraint.{Constraint}
use Rattle.contacts_base.specs.Contacts.{AreKeysRising}
use Rattle.contacts_base.specs.declared.contact.ContactEntry.{ContactEntry}
use Rattle.event_feed.specs.Events.{EventLists}
use Rattle.body_handles.specs.Orders.{slot_of}
use Rattle.graph_colours.specs.Colours.{all_members, ids_of}
use Rattle.graph_colours.specs.Members.{AreApart}
use Rattle.graph_colours.specs.declared.limits.TheConstants.{COLOURS}
use Rattle.impulse_ledger.specs.declared.entry.Cause.TheVariants as causes
use Rattle.islands.specs.Labels.{Labels}
use Rattle.plain_world.specs.declared.body.Body.{Body}
use Rattle.plain_world.specs.declared.joint.BodyJoint.{BodyJoint}
use Rattle.plain_world.specs.Bodies.{AreBodies}
use Rattle.plain_world.specs.Momentum.{momentum}
use Rattle.plain_world.specs.Joints.{AreJoints}
use Rattle.plain_world.specs.Sleep.{timed_bodies, told}
use Rattle.plain_world.specs.InSlots.{AreTimersWithin, HaveSameSlots}
use Rattle.plain_world.specs.Plain.{Plain}
use Rattle.plain_world.specs.Slots.{AreMatched, item_at}
use Rattle.shapes.specs.Shapes.{is_between}
use Rattle.sleep_wake.specs.Acting.{Acting, IsConsistent}
use Rattle.sleep_wake.specs.Changes.{after_changes}
use Rattle.sleep_wake.specs.ChangeLists.{AreChanges, begin_count}
use Rattle.sleep_wake.specs.declared.change.Change.{Change}
use Rattle.solver_sets.specs.BesideByTies.{ShowMoving}
use Rattle.solver_sets.specs.Slept.{asleep_only_in}
use Rattle.solver_sets.specs.SinceTold.{newly_asleep, newly_awake}
use Rattle.solver_sets.specs.Tied.{AreTied}
use Rattle.solver_sets.specs.Alike.{AreAlike, HaveSameEnds, ends_in}
use Rattle.solver_sets.specs.Ties.{JointSlots, key_changes, slots_of, ties_of}
use Rattle.solver_sets.proofs.MovingLaws.{show_moving}
use Rattle.solver_sets.proofs.SleptLaws.{told_bodies_tell}
use Rattle.world_core_base.specs.ConstraintRows.{rows_of}
use Rattle.world_core_base.specs.Gather.{states_of}
use Rattle.world_core_base.specs.ContactBodies.{AreContactsOf, IsContactOf}
use Rattle.world_core_base.specs.Renewal.{renewed_bodies}
use Rattle.world_core_base.specs.RowColours.{HasItsMovers}
use Rattle.world_core_base.specs.Solving.{Solving, bodies_of, solve_order, solved}
use Rattle.world_core_base.proofs.SolvingLaws.{arrays_are_solving}
use Rattle.world_core.specs.Inside.{IsWhole}
use Rattle.world_core.specs.WorldTies.{CanTell}
use Rattle.world_core.proofs.PartLaws.{kept_of}
use Rattle.world_core.proofs.RisingLaws.{contacts_after_rise}
use Rattle.world_core.proofs.RowColourLaws.{acting_have_movers}
use Rattle.world_rules.specs.Apply.{Answers, Applied, apply_step, bodies_ticked, booked, events_of, gained, rested_acting, step_done, step_entries, world_with}
use Rattle.world_rules.specs.declared.command.Reply.{Reply}
use Rattle.world_rules.specs.declared.command.Reply.TheVariants as replies
use Rattle.world_rules.specs.Gathering.{CanGather}
use Rattle.world_rules.specs.Sets.{acting_of}
use Rattle.world_rules.specs.Sound.{AreTold}
use Rattle.world_rules.specs.World.{World, joints_in_slots}
use Rattle.world_rules.proofs.AcceptedAll.{solved_in}
use Rattle.world_rules.proofs.ChangeLemmas.{tied_alike}
use Rattle.world_rules.proofs.GatherLaws.{can_gather_collided}
use Rattle.world_rules.proofs.KeptStep.{IsTicked, collide_kept, collided_in, collided_world, changed_in}
use Rattle.world_rules.proofs.LowerLaws.{alike_bodies_keep_ties, impulses_keep_ties, same_touching_keep_ties}
use Rattle.world_rules.proofs.PartsLeft.{IsLeft}
use Rattle.world_rules.proofs.SoundLaws.{IsKept, kept_sound}
use Rattle.world_rules.proofs.ToldLaws.{length_told}
use Rattle.world_rules.proofs.StepCalls.{can_change, step_left, timers_within, woke_is}
use Rattle.world_rules.proofs.StepParts.{asleep_rise, ticked_in, told_as}
use Rattle.world_rules.proofs.TickedLaws.{AreInSameCondition, alike_then, moved_conditions, timed_alike, timed_told, told_conditions}

-- ---- the collide

-- the contacts that the collide finds ascend
rises_in : (w : World) (s : Acting Constraint) → IsWhole w s → AreKeysRising (collided_in w).now
rises_in w s is = contacts_after_rise w.plain.bodies w.plain.joints w.plain.contacts (kept_of w s is).matched.few (kept_of w s is).bodies

-- the changes are those that the collide finds
abbrev pub AreFound : World → List (Change Constraint) → Type 0
AreFound w changes = changes ≡ key_changes w.plain.bodies (collided_in w).begin (collided_in w).end

pub can_change_found : (w : World) (s t : Acting Constraint) (changes : List (Change Constraint)) → IsWhole w s → t ≡ s → AreFound w changes → AreChanges constraint_number t.labels t.ties changes
can_change_found w s t changes is same found =
    let acting : t ≡ acting_of w.plain = same ∙ is.same in
    subst (λ (a : Acting Constraint). AreChanges constraint_number a.labels a.ties changes) (sym acting)
    (subst (λ (cs : List (Change Constraint)). AreChanges constraint_number (acting_of w.plain).labels (acting_of w.plain).ties cs) (sym found) (can_change w (kept_of w s is) (rises_in w s is)).changes)

-- there is room for what begins
pub room_found : (w : World) (s t : Acting Constraint) (changes : List (Change Constraint)) (n room : ℕ) → IsWhole w s → t ≡ s → AreFound w changes → n ≡ length (collided_in w).begin
    → length s.ties + n ≤ room → length t.ties + begin_count changes ≤ room
room_found w s t changes n room is same found count h =
    let few : begin_count changes ≤ length (collided_in w).begin = subst (λ (cs : List (Change Constraint)). begin_count cs ≤ length (collided_in w).begin) (sym found) (can_change w (kept_of w s is) (rises_in w s is)).count in
    let long : length t.ties ≡ length s.ties = ap (λ (a : Acting Constraint). length a.ties) same in
    omega (arith, few, long, count, h)

pub consistent_found : (w : World) (s t : Acting Constraint) → IsWhole w s → t ≡ s → IsConsistent constraint_number t
consistent_found w s t is same = subst (IsConsistent constraint_number) (sym (same ∙ is.same)) (kept_of w s is).consistent

-- what acts, the bodies and the contacts, once all that begins and ends had its turn
pub record HasChanged (w : World) (now : Acting Constraint) (there : List (Option Body)) (found : List ContactEntry) : Type 0 where
  pub acting : now ≡ changed_in w
  pub bodies : there ≡ (collided_world w).plain.bodies
  pub contacts : found ≡ (collided_in w).now

pub has_changed : (w : World) (s t now : Acting Constraint) (changes : List (Change Constraint)) (bodies : List (Option Body)) (contacts : List ContactEntry) → IsWhole w s → t ≡ s → AreFound w changes
    → now ≡ after_changes constraint_number changes t → bodies ≡ told now.labels w.plain.bodies → contacts ≡ (collided_in w).now → HasChanged w now bodies contacts
has_changed w s t now changes bodies contacts is same found apply_changes tell are =
    let acting : t ≡ acting_of w.plain = same ∙ is.same in
    let all : now ≡ changed_in w = apply_changes ∙ ap (λ (cs : List (Change Constraint)). after_changes constraint_number cs t) found ∙ ap (after_changes constraint_number (key_changes w.plain.bodies (collided_in w).begin (collided_in w).end)) acting in
    record {
      acting = all;
      bodies = tell ∙ ap (λ (a : Acting Constraint). told a.labels w.plain.bodies) all;
      contacts = are;
    }

-- ---- what the ticks ask for

pub few_changed : (w : World) (s now : Acting Constraint) (bodies : List (Option Body)) (contacts : List ContactEntry) → IsWhole w s → HasChanged w now bodies contacts → length bodies ≤ MAX_SLOTS
few_changed w s now bodies contacts is h = subst (λ (bs : List (Option Body)). length bs ≤ MAX_SLOTS) (sym h.bodies) (collide_kept w (kept_of w s is) (rises_in w s is)).kept.matched.few

pub bodies_changed : (w : World) (s now : Acting Constraint) (bodies : List (Option Body)) (contacts : List ContactEntry) → IsWhole w s → HasChanged w now bodies contacts → AreBodies bodies
bodies_changed w s now bodies contacts is h = subst AreBodies (sym h.bodies) (collide_kept w (kept_of w s is) (rises_in w s is)).kept.bodies

pub can_solve_changed : (w : World) (s now : Acting Constraint) (bodies : List (Option Body)) (contacts : List ContactEntry) → IsWhole w s → HasChanged w now bodies contacts → CanGather bodies w.plain.joints contacts now.lists
can_solve_changed w s now bodies contacts is h =
    subst (λ (bs : List (Option Body)). CanGather bs w.plain.joints contacts now.lists) (sym h.bodies)
    (subst (λ (es : List ContactEntry). CanGather (collided_world w).plain.bodies w.plain.joints es now.lists) (sym h.contacts)
    (subst (λ (a : Acting Constraint). CanGather (collided_world w).plain.bodies w.plain.joints (collided_in w).now a.lists) (sym h.acting) (can_gather_collided w (kept_of w s is) (rises_in w s is))))

-- no two constraints of a colour share a mover
pub apart_changed : (w : World) (s now : Acting Constraint) (bodies : List (Option Body)) (contacts : List ContactEntry) → IsWhole w s → HasChanged w now bodies contacts → All AreApart (take COLOURS now.lists)
apart_changed w s now bodies contacts is h =
    let collided = collide_kept w (kept_of w s is) (rises_in w s is) in
    subst (λ (a : Acting Constraint). All AreApart (take COLOURS a.lists)) (collided.acting ∙ sym h.acting) collided.kept.consistent.colouring.apart

-- each has the movers that its bodies give it
pub movers_changed : (w : World) (s now : Acting Constraint) (bodies : List (Option Body)) (contacts : List ContactEntry) → IsWhole w s → HasChanged w now bodies contacts → All (All (HasItsMovers (states_of bodies) w.plain.joints)) now.lists
movers_changed w s now bodies contacts is h =
    let collided = collide_kept w (kept_of w s is) (rises_in w s is) in
    subst (λ (bs : List (Option Body)). All (All (HasItsMovers (states_of bs) w.plain.joints)) now.lists) (sym h.bodies)
    (subst (λ (a : Acting Constraint). All (All (HasItsMovers (states_of (collided_world w).plain.bodies) w.plain.joints)) a.lists) (collided.acting ∙ sym h.acting) (acting_have_movers (collided_world w).plain))

pub room_changed : (w : World) (s t now : Acting Constraint) (bodies : List (Option Body)) (contacts : List ContactEntry) (n room : ℕ) → IsWhole w s → HasChanged w now bodies contacts → t ≡ s
    → n ≡ length (collided_in w).begin → length t.ties + n ≤ room → length (all_members now.lists) ≤ room
room_changed w s t now bodies contacts n room is h same count enough =
    let few : length (all_members now.lists) ≤ length (acting_of w.plain).ties + length (collided_in w).begin =
    subst (λ (a : Acting Constraint). length (all_members a.lists) ≤ length (acting_of w.plain).ties + length (collided_in w).begin) (sym h.acting) (can_change w (kept_of w s is) (rises_in w s is)).coloured in
    let long : length t.ties ≡ length (acting_of w.plain).ties = ap (λ (a : Acting Constraint). length a.ties) (same ∙ is.same) in
    omega (arith, few, long, count, enough)

-- ---- what the ticks leave

-- the bodies, the joints, the contacts and the sums after the ticks
pub record HasSolved (w : World) (n : ℕ) (left : List (Option Body)) (js : List (Option BodyJoint)) (es : List ContactEntry) (added : StepSums) : Type 0 where
  pub bodies : left ≡ renewed_bodies (bodies_of (solved_in w n))
  pub joints : js ≡ (solved_in w n).joints
  pub contacts : es ≡ (solved_in w n).contacts
  pub sums : added ≡ (solved_in w n).sums
  pub ticked : IsTicked (collided_world w).plain (renewed_bodies (bodies_of (solved_in w n))) (solved_in w n).joints (solved_in w n).contacts (solved_in w n).sums

-- what the ticks leave of bodies and contacts
abbrev pub solved_from : World → ℕ → Acting Constraint → List (Option Body) → List ContactEntry → Solving
solved_from w n now bodies contacts = solved n w.plain.gravity (solve_order (ids_of now.lists)) bodies w.plain.joints contacts

-- what the code's call answers of it
pub record AreTicks (before left : List (Option Body)) (js : List (Option BodyJoint)) (es : List ContactEntry) (sums : StepSums) : Type 0 where
  pub bodies : AreBodies left
  pub slots : HaveSameSlots before left
  pub small : AreSums (2 ^ 83) sums
  pub gain : momentum left ≡ plus (momentum before) (added sums)
  pub joints : AreJoints before js
  pub pairs : AreContactsOf before es

pub has_solved : (w : World) (n : ℕ) (s now : Acting Constraint) (before bodies : List (Option Body)) (joints : List (Option BodyJoint)) (found contacts : List ContactEntry) (sums : StepSums) → IsWhole w s
    → HasChanged w now before found → bodies ≡ renewed_bodies (bodies_of (solved_from w n now before found)) → joints ≡ (solved_from w n now before found).joints → contacts ≡ (solved_from w n now before found).contacts → sums ≡ (solved_from w n now before found).sums
    → AreTicks before bodies joints contacts sums → HasSolved w n bodies joints contacts sums
has_solved w n s now before bodies joints found contacts sums is h is_bodies is_joints is_contacts is_sums t =
    let same : solved_from w n now before found ≡ solved_in w n =
    ap (λ (a : Acting Constraint). solved_from w n a before found) h.acting ∙ ap (λ (bs : List (Option Body)). solved_from w n (changed_in w) bs found) h.bodies ∙ ap (solved_from w n (changed_in w) (collided_world w).plain.bodies) h.contacts in
    let to_bodies : bodies ≡ renewed_bodies (bodies_of (solved_in w n)) = is_bodies ∙ ap (λ (q : Solving). renewed_bodies (bodies_of q)) same in
    let to_joints : joints ≡ (solved_in w n).joints = is_joints ∙ ap (λ (q : Solving). q.joints) same in
    let to_contacts : contacts ≡ (solved_in w n).contacts = is_contacts ∙ ap (λ (q : Solving). q.contacts) same in
    let to_sums : sums ≡ (solved_in w n).sums = is_sums ∙ ap (λ (q : Solving). q.sums) same in
    let u : AreTicks (collided_world w).plain.bodies bodies joints contacts sums = subst (λ (bs : List (Option Body)). AreTicks bs bodies joints contacts sums) h.bodies t in
    record {
      bodies = to_bodies;
      joints = to_joints;
      contacts = to_contacts;
      sums = to_sums;
      ticked = ticked_in w n bodies joints contacts sums (kept_of w s is) (rises_in w s is) to_bodies to_joints to_contacts to_sums u.bodies u.slots u.small u.gain u.joints u.pairs;
    }

-- ---- what the sleep phase asks for

pub few_solved : (w : World) (n : ℕ) (s : Acting Constraint) (bodies : List (Option Body)) (joints : List (Option BodyJoint)) (contacts : List ContactEntry) (sums : StepSums) → IsWhole w s → HasSolved w n bodies joints contacts sums → length bodies ≤ MAX_SLOTS
few_solved w n s bodies joints contacts sums is h =
    let few : length (collided_world w).plain.bodies ≤ MAX_SLOTS = (collide_kept w (kept_of w s is) (rises_in w s is)).kept.matched.few in
    let long : length bodies ≡ length (collided_world w).plain.bodies = ap (λ (bs : List (Option Body)). length bs) h.bodies ∙ h.ticked.slots.slots in
    omega (arith, few, long)

pub timers_room : (w : World) (n : ℕ) (s : Acting Constraint) (bodies : List (Option Body)) (joints : List (Option BodyJoint)) (contacts : List ContactEntry) (sums : StepSums) → IsWhole w s → HasSolved w n bodies joints contacts sums → length bodies ≡ length w.plain.bodies
timers_room w n s bodies joints contacts sums is h = ap (λ (bs : List (Option Body)). length bs) h.bodies ∙ h.ticked.slots.slots ∙ length_told (changed_in w).labels w.plain.bodies

pub timers_solved : (w : World) (n : ℕ) (s : Acting Constraint) (bodies : List (Option Body)) (joints : List (Option BodyJoint)) (contacts : List ContactEntry) (sums : StepSums) → IsWhole w s → HasSolved w n bodies joints contacts sums → AreTimersWithin (2 ^ 44) bodies
timers_solved w n s bodies joints contacts sums is h = subst (AreTimersWithin (2 ^ 44)) (sym h.bodies) (timers_within w (renewed_bodies (bodies_of (solved_in w n))) (kept_of w s is) h.ticked.timers)

-- ---- who fell asleep

-- the ticks leave the bodies told as they were
solved_told : (w : World) (n : ℕ) → IsKept w → AreKeysRising (collided_in w).now → AreTold (renewed_bodies (bodies_of (solved_in w n))) (changed_in w).labels
solved_told w n k rises =
    let now : World = collided_world w in
    let can = can_gather_collided w k rises in
    let run = arrays_are_solving n w.plain.gravity now.plain.bodies now.plain.joints now.plain.contacts (changed_in w).lists can.rising can.once in
    let r : Run = ran n w.plain.gravity (start (states_of now.plain.bodies) (rows_of (states_of now.plain.bodies) now.plain.joints now.plain.contacts (changed_in w).lists)) in
    let same : AreInSameCondition now.plain.bodies (renewed_bodies (bodies_of (solved_in w n))) = subst (λ (bs : List (Option Body)). AreInSameCondition now.plain.bodies (renewed_bodies bs)) run.bodies_left (moved_conditions now.plain.bodies r.states) in
    told_conditions now.plain.bodies (renewed_bodies (bodies_of (solved_in w n))) (changed_in w).labels same (collide_kept w k rises).kept.told

pub told_solved : (w : World) (n : ℕ) (s now : Acting Constraint) (before bodies : List (Option Body)) (joints : List (Option BodyJoint)) (found contacts : List ContactEntry) (sums : StepSums) → IsWhole w s → HasChanged w now before found → HasSolved w n bodies joints contacts sums
    → AreTold bodies now.labels
told_solved w n s now before bodies joints found contacts sums is t h =
    subst (λ (a : Acting Constraint). AreTold bodies a.labels) (sym t.acting) (subst (λ (bs : List (Option Body)). AreTold bs (changed_in w).labels) (sym h.bodies) (solved_told w n (kept_of w s is) (rises_in w s is)))

-- they leave the movers as they were
pub tied_solved : (w : World) (n : ℕ) (s now : Acting Constraint) (before bodies : List (Option Body)) (joints : List (Option BodyJoint)) (found contacts : List ContactEntry) (sums : StepSums) → IsWhole w s → HasChanged w now before found → HasSolved w n bodies joints contacts sums
    → AreTied bodies now.labels
tied_solved w n s now before bodies joints found contacts sums is t h =
    let left : List (Option Body) = renewed_bodies (bodies_of (solved_in w n)) in
    subst (λ (a : Acting Constraint). AreTied bodies a.labels) (sym t.acting)
    (subst (λ (bs : List (Option Body)). AreTied bs (changed_in w).labels) (sym h.bodies) (tied_alike (collided_world w).plain.bodies left (changed_in w).labels h.ticked.alike (collide_kept w (kept_of w s is) (rises_in w s is)).kept.tied))

-- what acts is consistent
pub consistent_changed : (w : World) (s now : Acting Constraint) (bodies : List (Option Body)) (contacts : List ContactEntry) → IsWhole w s → HasChanged w now bodies contacts → IsConsistent constraint_number now
consistent_changed w s now bodies contacts is t =
    let k = collide_kept w (kept_of w s is) (rises_in w s is) in
    subst (IsConsistent constraint_number) (k.acting ∙ sym t.acting) k.kept.consistent

length-ends : (joints : List (Option BodyJoint)) → length (map ends_in joints) ≡ length joints
length-ends [] = refl
length-ends (o ∷ os) = ap suc (length-ends os)

-- it is what the joints and contacts make that the ticks leave
ticked_tell : (w : Plain) (n : ℕ) (left : List (Option Body)) (js : List (Option BodyJoint)) (es : List ContactEntry) (sums : StepSums) → AreTied w.bodies w.islands → AreMatched w.joint_entries w.joints → IsConsistent constraint_number (acting_of w) → IsTicked w left js es sums
    → ShowMoving (timed_bodies n left) js es (acting_of w).labels (acting_of w).lists
unfolding acting_of
ticked_tell w n left js es sums tied matched consistent t =
    let alike : AreAlike w.bodies (timed_bodies n left) = alike_then w.bodies left (timed_bodies n left) t.alike (timed_alike n left) in
    let now : JointSlots = slots_of w.joint_entries js in
    let long : length w.joint_entries ≡ length js = matched.slots ∙ sym (length-ends w.joints) ∙ sym (ap (λ (l : List (Option (ℕ × ℕ))). length l) t.ends) ∙ length-ends js in
    let ties : ties_of (timed_bodies n left) now es ≡ ties_of w.bodies (joints_in_slots w) w.contacts =
    alike_bodies_keep_ties w.bodies (timed_bodies n left) now es alike ∙ impulses_keep_ties w.bodies (joints_in_slots w) now es refl t.ends ∙ same_touching_keep_ties w.bodies (joints_in_slots w) w.contacts es t.touching in
    show_moving (timed_bodies n left) now es (acting_of w) (tied_alike w.bodies (timed_bodies n left) w.islands alike tied) long consistent (sym ties)

solved_tell : (w : World) (n : ℕ) → (k : IsKept w) → (rises : AreKeysRising (collided_in w).now) → IsTicked (collided_world w).plain (renewed_bodies (bodies_of (solved_in w n))) (solved_in w n).joints (solved_in w n).contacts (solved_in w n).sums
    → ShowMoving (timed_bodies n (renewed_bodies (bodies_of (solved_in w n)))) (solved_in w n).joints (solved_in w n).contacts (changed_in w).labels (changed_in w).lists
solved_tell w n k rises t =
    let q : Solving = solved_in w n in
    let is = collide_kept w k rises in
    subst (λ (a : Acting Constraint). ShowMoving (timed_bodies n (renewed_bodies (bodies_of q))) q.joints q.contacts a.labels a.lists) is.acting
    (ticked_tell (collided_world w).plain n (renewed_bodies (bodies_of q)) q.joints q.contacts q.sums is.kept.tied is.kept.joint_slots is.kept.consistent t)

pub tell_solved : (w : World) (n : ℕ) (s now : Acting Constraint) (before bodies : List (Option Body)) (joints : List (Option BodyJoint)) (found contacts : List ContactEntry) (sums : StepSums) → IsWhole w s → HasChanged w now before found → HasSolved w n bodies joints contacts sums
    → ShowMoving (timed_bodies n bodies) joints contacts now.labels now.lists
tell_solved w n s now before bodies joints found contacts sums is t h =
    let q : Solving = solved_in w n in
    let at_bodies : ShowMoving (timed_bodies n bodies) q.joints q.contacts (changed_in w).labels (changed_in w).lists =
    subst (λ (bs : List (Option Body)). ShowMoving (timed_bodies n bs) q.joints q.contacts (changed_in w).labels (changed_in w).lists) (sym h.bodies) (solved_tell w n (kept_of w s is) (rises_in w s is) h.ticked) in
    let at_joints : ShowMoving (timed_bodies n bodies) joints q.contacts (changed_in w).labels (changed_in w).lists =
    subst (λ (js : List (Option BodyJoint)). ShowMoving (timed_bodies n bodies) js q.contacts (changed_in w).labels (changed_in w).lists) (sym h.joints) at_bodies in
    let at_contacts : ShowMoving (timed_bodies n bodies) joints contacts (changed_in w).labels (changed_in w).lists =
    subst (λ (es : List ContactEntry). ShowMoving (timed_bodies n bodies) joints es (changed_in w).labels (changed_in w).lists) (sym h.contacts) at_joints in
    subst (λ (a : Acting Constraint). ShowMoving (timed_bodies n bodies) joints contacts a.labels a.lists) (sym t.acting) at_contacts

-- ---- what a source tells once the ticks have passed

-- the ticks change no constraint
ticked_ties : (w : Plain) (left : List (Option Body)) (js : List (Option BodyJoint)) (es : List ContactEntry) (sums : StepSums) → IsTicked w left js es sums → ties_of left (slots_of w.joint_entries js) es ≡ ties_of w.bodies (joints_in_slots w) w.contacts
ticked_ties w left js es sums t =
    alike_bodies_keep_ties w.bodies left (slots_of w.joint_entries js) es t.alike
    ∙ impulses_keep_ties w.bodies (joints_in_slots w) (slots_of w.joint_entries js) es refl t.ends
    ∙ same_touching_keep_ties w.bodies (joints_in_slots w) w.contacts es t.touching

collided_ties : (w : World) → (k : IsKept w) → (rises : AreKeysRising (collided_in w).now) → ties_of (collided_world w).plain.bodies (joints_in_slots (collided_world w).plain) (collided_world w).plain.contacts ≡ (changed_in w).ties
unfolding acting_of
collided_ties w k rises = ap (λ (a : Acting Constraint). a.ties) (collide_kept w k rises).acting

pub ties_solved : (w : World) (n : ℕ) (s now : Acting Constraint) (before bodies : List (Option Body)) (joints : List (Option BodyJoint)) (found contacts : List ContactEntry) (sums : StepSums) → IsWhole w s → HasChanged w now before found → HasSolved w n bodies joints contacts sums
    → ties_of bodies (slots_of w.plain.joint_entries joints) contacts ≡ now.ties
ties_solved w n s now before bodies joints found contacts sums is t h =
    let q : Solving = solved_in w n in
    let left : List (Option Body) = renewed_bodies (bodies_of q) in
    let ticked : ties_of left (slots_of w.plain.joint_entries q.joints) q.contacts ≡ (changed_in w).ties = ticked_ties (collided_world w).plain left q.joints q.contacts q.sums h.ticked ∙ collided_ties w (kept_of w s is) (rises_in w s is) in
    (λ i. ties_of (h.bodies i) (slots_of w.plain.joint_entries (h.joints i)) (h.contacts i)) ∙ ticked ∙ sym (ap (λ (a : Acting Constraint). a.ties) t.acting)

same_length : (slot_entries : List SlotEntry) (old new : List (Option BodyJoint)) → HaveSameEnds old new → length new ≡ length old
same_length slot_entries old new same = sym (length-ends new) ∙ ap (λ (l : List (Option (ℕ × ℕ))). length l) same ∙ length-ends old

ends_there : (o : Option BodyJoint) → is_some (ends_in o) ≡ is_some o
ends_there None = refl
ends_there (Some j) = refl

ends_at : (joints : List (Option BodyJoint)) (slot : ℕ) → is_some (item_at (map ends_in joints) slot) ≡ is_some (item_at joints slot)
ends_at [] slot = refl
ends_at (o ∷ os) zero = ends_there o
ends_at (o ∷ os) (suc slot) = ends_at os slot

matched_ends : (slot_entries : List SlotEntry) (old new : List (Option BodyJoint)) → HaveSameEnds old new → AreMatched slot_entries old → AreMatched slot_entries new
matched_ends slot_entries old new same m =
    let long : length new ≡ length old = same_length slot_entries old new same in
    record {
      slots = m.slots ∙ sym long;
      few = rw long m.few;
      taken = λ slot. sym (ends_at new slot) ∙ ap (λ (l : List (Option (ℕ × ℕ))). is_some (item_at l slot)) same ∙ ends_at old slot ∙ m.taken slot;
    }

-- and joints and contacts are still of two bodies each
pub can_tell_solved : (w : World) (n : ℕ) (s : Acting Constraint) (bodies : List (Option Body)) (joints : List (Option BodyJoint)) (contacts : List ContactEntry) (sums : StepSums) → IsWhole w s → HasSolved w n bodies joints contacts sums → CanTell (slots_of w.plain.joint_entries joints) contacts
can_tell_solved w n s bodies joints contacts sums is h =
    let q : Solving = solved_in w n in
    let k = kept_of w s is in
    let told : CanTell (slots_of w.plain.joint_entries q.joints) q.contacts = record {
      slots = record { matched = matched_ends w.plain.joint_entries w.plain.joints q.joints h.ticked.ends k.joint_slots; slot_entries = k.joint_entries };
      joined = λ slot j at. (h.ticked.joints slot j at).apart;
      rising = h.ticked.rising;
      two = λ e there. (All-contains (IsContactOf (collided_world w).plain.bodies) q.contacts e h.ticked.pairs there).apart;
    } in
    subst (λ (js : List (Option BodyJoint)). CanTell (slots_of w.plain.joint_entries js) contacts) (sym h.joints) (subst (λ (es : List ContactEntry). CanTell (slots_of w.plain.joint_entries q.joints) es) (sym h.contacts) told)

slept_is : (w : World) (n : ℕ) (labels : Labels) (js : List (Option BodyJoint)) (es : List ContactEntry) (sums : StepSums) → IsKept w → AreKeysRising (collided_in w).now → IsTicked (collided_world w).plain (renewed_bodies (bodies_of (solved_in w n))) js es sums
    → newly_asleep w.plain.slot_entries (bodies_ticked n (solved_in w n)) labels ≡ asleep_only_in w.plain.slot_entries (changed_in w).labels labels
slept_is w n labels js es sums k rises t =
    let now : World = collided_world w in
    let left : List (Option Body) = renewed_bodies (bodies_of (solved_in w n)) in
    let alike = alike_then now.plain.bodies left (timed_bodies n left) t.alike (timed_alike n left) in
    let tied = tied_alike now.plain.bodies (timed_bodies n left) (changed_in w).labels alike (collide_kept w k rises).kept.tied in
    (told_bodies_tell w.plain.slot_entries (timed_bodies n left) (changed_in w).labels labels (told_as (timed_bodies n left) (changed_in w).labels tied (timed_told n left (changed_in w).labels (solved_told w n k rises)))).0

-- they rise by slot, as those do that woke
pub slept_rise : (w : World) (n : ℕ) (s : Acting Constraint) (bodies : List (Option Body)) (joints : List (Option BodyJoint)) (contacts : List ContactEntry) (sums : StepSums) (labels : Labels) → IsWhole w s → HasSolved w n bodies joints contacts sums
    → IsStrictlyIncreasing (map slot_of (newly_asleep w.plain.slot_entries (timed_bodies n bodies) labels))
slept_rise w n s bodies joints contacts sums labels is h =
    let q : Solving = solved_in w n in
    let same : newly_asleep w.plain.slot_entries (timed_bodies n bodies) labels ≡ asleep_only_in w.plain.slot_entries (changed_in w).labels labels =
    ap (λ (bs : List (Option Body)). newly_asleep w.plain.slot_entries (timed_bodies n bs) labels) h.bodies ∙ slept_is w n labels q.joints q.contacts q.sums (kept_of w s is) (rises_in w s is) h.ticked in
    subst (λ (hs : List Handle). IsStrictlyIncreasing (map slot_of hs)) (sym same) (asleep_rise w.plain.slot_entries (changed_in w).labels labels)

pub woke_rise : (w : World) (s now : Acting Constraint) (bodies : List (Option Body)) (contacts : List ContactEntry) → IsWhole w s → HasChanged w now bodies contacts → IsStrictlyIncreasing (map slot_of (newly_awake w.plain.slot_entries w.plain.bodies now.labels))
woke_rise w s now bodies contacts is h =
    let same : newly_awake w.plain.slot_entries w.plain.bodies now.labels ≡ asleep_only_in w.plain.slot_entries (changed_in w).labels w.plain.islands =
    ap (λ (a : Acting Constraint). newly_awake w.plain.slot_entries w.plain.bodies a.labels) h.acting ∙ woke_is w (kept_of w s is) in
    subst (λ (hs : List Handle). IsStrictlyIncreasing (map slot_of hs)) (sym same) (asleep_rise w.plain.slot_entries (changed_in w).labels w.plain.islands)

-- ---- the whole step

-- what a step's calls have left, one after another
pub record AreLeft (w : World) (n : ℕ) (now rested : Acting Constraint) (before left new : List (Option Body)) (joints : List (Option BodyJoint)) (found contacts : List ContactEntry) (sums : StepSums) (gain : Vec2) (events : EventLists) : Type 0 where
  pub collide : HasChanged w now before found
  pub ticks : HasSolved w n left joints contacts sums
  pub phase : rested ≡ rested_acting (timed_bodies n left) joints contacts now
  pub bodies : new ≡ told rested.labels (timed_bodies n left)
  pub gain_is : gain ≡ gained (timed_bodies n left) new
  pub begin : events.begin ≡ (collided_in w).begin
  pub end : events.end ≡ (collided_in w).end
  pub slept : events.slept ≡ newly_asleep w.plain.slot_entries (timed_bodies n left) rested.labels
  pub woke : events.woke ≡ newly_awake w.plain.slot_entries w.plain.bodies now.labels

-- the world of the code's parts
abbrev pub world_left : World → Acting Constraint → List (Option Body) → List (Option BodyJoint) → List ContactEntry → StepSums → Vec2 → EventLists → World
world_left w rested bodies joints contacts sums gain events = record w {
  plain = record w.plain { bodies = bodies; joints = joints; contacts = contacts; islands = rested.labels; colours = ids_of rested.lists; steps = w.plain.steps + 1; calls = w.plain.calls + 1 };
  entries = w.entries ++ (step_entries (w.plain.calls + 1) sums ++ booked (w.plain.calls + 1) causes.Rest gain.x gain.y);
  events = events;
}

pub step_is_left : (w : World) (n : ℕ) (s now rested : Acting Constraint) (before left new : List (Option Body)) (joints : List (Option BodyJoint)) (found contacts : List ContactEntry) (sums : StepSums) (gain : Vec2) (events : EventLists) → IsWhole w s → w.plain.calls < 2 ^ 40 → n ≤ 8
    → AreLeft w n now rested before left new joints found contacts sums gain events → IsLeft w (step_done w.plain n (collided_in w)) (world_left w rested new joints contacts sums gain events) rested
step_is_left w n s now rested before left new joints found contacts sums gain events is few ticks h =
    let k = kept_of w s is in
    let q : Solving = solved_in w n in
    let ticked : List (Option Body) = bodies_ticked n q in
    let final : Acting Constraint = rested_acting ticked q.joints q.contacts (changed_in w) in
    let timed : timed_bodies n left ≡ ticked = ap (timed_bodies n) h.ticks.bodies in
    let rest : rested ≡ final =
    h.phase ∙ ap (λ (bs : List (Option Body)). rested_acting bs joints contacts now) timed ∙ ap (λ (js : List (Option BodyJoint)). rested_acting ticked js contacts now) h.ticks.joints
    ∙ ap (λ (es : List ContactEntry). rested_acting ticked q.joints es now) h.ticks.contacts ∙ ap (rested_acting ticked q.joints q.contacts) h.collide.acting in
    let bodies : new ≡ told final.labels ticked = h.bodies ∙ ap (λ (bs : List (Option Body)). told rested.labels bs) timed ∙ ap (λ (a : Acting Constraint). told a.labels ticked) rest in
    let lost : gain ≡ gained ticked (told final.labels ticked) = h.gain_is ∙ ap (λ (bs : List (Option Body)). gained bs new) timed ∙ ap (gained ticked) bodies in
    let slept : events.slept ≡ asleep_only_in w.plain.slot_entries (changed_in w).labels final.labels =
    h.slept ∙ ap (λ (bs : List (Option Body)). newly_asleep w.plain.slot_entries bs rested.labels) timed ∙ ap (λ (a : Acting Constraint). newly_asleep w.plain.slot_entries ticked a.labels) rest ∙ slept_is w n final.labels q.joints q.contacts q.sums k (rises_in w s is) h.ticks.ticked in
    let woke : events.woke ≡ asleep_only_in w.plain.slot_entries (changed_in w).labels w.plain.islands = h.woke ∙ ap (λ (a : Acting Constraint). newly_awake w.plain.slot_entries w.plain.bodies a.labels) h.collide.acting ∙ woke_is w k in
    let told_of : events ≡ events_of w.plain (collided_in w) (changed_in w).labels final.labels = λ j. record { begin = h.begin j; end = h.end j; slept = slept j; woke = woke j } in
    let is_left = step_left w n q k few ticks (rises_in w s is) h.ticks.ticked in
    record {
      same = λ j. world_left w (rest j) (bodies j) (h.ticks.joints j) (h.ticks.contacts j) (h.ticks.sums j) (lost j) (told_of j);
      kept = kept_sound (world_with w (step_done w.plain n (collided_in w))) is_left.sound;
      acting = rest ∙ is_left.same;
    }

-- ---- the answer

accepted : (t : Bool) (w : World) (a : Applied) (now : World) → t ≡ true → now ≡ world_with w a → Answers (cond t (Ok a) (Err OutOfRange)) w (Ok a.reply) now
accepted t w a now e s = rw e (refl, s)

pub step_answers : (w : World) (ticks : ℤ) (n : ℕ) (now : World) (s : Acting Constraint) → is_between (pos 1) (pos 8) ticks ≡ true → n ≡ unsigned_abs ticks → IsLeft w (step_done w.plain n (collided_in w)) now s
    → Answers (apply_step w.plain ticks) w (Ok (replies.Stepped (w.plain.steps + 1))) now
step_answers w ticks n now s between count l =
    accepted (is_between (pos 1) (pos 8) ticks) w (step_done w.plain (unsigned_abs ticks) (collided_in w)) now between
    (l.same ∙ ap (λ (m : ℕ). world_with w (step_done w.plain m (collided_in w))) count)

-- ---- how many ticks

-- a number of ticks that is accepted
pub record AreCounted (ticks : ℤ) (n : ℕ) : Type 0 where
  pub between : is_between (pos 1) (pos 8) ticks ≡ true
  pub count : n ≡ unsigned_abs ticks

counted_when : (t : Bool) (m n : ℕ) → Ok n ≡ cond t (Ok m) (Err OutOfRange) → (t ≡ true) × (n ≡ m)
counted_when true m n e = (refl, cc)
counted_when false m n e = cc

pub are_counted : (ticks z : ℤ) (n : ℕ) → z ≡ ticks → Ok n ≡ cond (is_between (pos 1) (pos 8) z) (Ok (unsigned_abs z)) (Err OutOfRange) → AreCounted ticks n
are_counted ticks z n same e =
    let both = counted_when (is_between (pos 1) (pos 8) z) (unsigned_abs z) n e in
    record { between = subst (λ (i : ℤ). is_between (pos 1) (pos 8) i ≡ true) same both.0; count = both.1 ∙ ap unsigned_abs same }

refused_otherwise : (t : Bool) (m : ℕ) (a : Applied) (w : World) (r : Result Reply Refusal) (x : Refusal) → Err x ≡ cond t (Ok m) (Err OutOfRange) → IsErr r → IsErrAnd r (λ e. e ≡ x) → Answers (cond t (Ok a) (Err OutOfRange)) w r w
refused_otherwise true m a w r x e h k = cc
refused_otherwise false m a w (Ok reply) x e h k = cc
refused_otherwise false m a w (Err d) x e h k = (k ∙ cc, refl)

pub ticks_refused : (w : World) (ticks z : ℤ) (r : Result Reply Refusal) (x : Refusal) → z ≡ ticks → Err x ≡ cond (is_between (pos 1) (pos 8) z) (Ok (unsigned_abs z)) (Err OutOfRange) → IsErr r → IsErrAnd r (λ e. e ≡ x) → Answers (apply_step w.plain ticks) w r w
ticks_refused w ticks z r x same e h k =
    subst (λ (i : ℤ). Answers (apply_step w.plain i) w r w) same
    (refused_otherwise (is_between (pos 1) (pos 8) z) (unsigned_abs z) (step_done w.plain (unsigned_abs z) (collided_in w)) w r x e h k)

-- ---- a refusal

refused_when : (t : Bool) (a : Applied) (w new : World) (r : Result Reply Refusal) → t ≡ true → r ≡ Err NoMemory → new ≡ w → Answers (cond t (Ok a) (Err OutOfRange)) w r new
refused_when t a w new r between is same = rw (between, is) (refl, same)

pub is_refusal : (r : Result Reply Refusal) (x : Refusal) → IsErr r → IsErrAnd r (λ e. e ≡ x) → x ≡ NoMemory → r ≡ Err NoMemory
is_refusal (Ok reply) x h k e = cc
is_refusal (Err d) x h k e = ap Err (k ∙ e)

-- where memory is wanting, nothing is changed
pub step_refused : (w new : World) (ticks : ℤ) (r : Result Reply Refusal) → is_between (pos 1) (pos 8) ticks ≡ true → r ≡ Err NoMemory → new ≡ w → Answers (apply_step w.plain ticks) w r new
step_refused w new ticks r between is same = refused_when (is_between (pos 1) (pos 8) ticks) (step_done w.plain (unsigned_abs ticks) (collided_in w)) w new r between is same
