-- The parts of a step: what the collide needs room for, what the ticks leave, what is booked, and who acts in the end.
use Rattle.std.proofs.Common.{◌≡◌, ℕ, suc, ◌+◌, ◌<◌, ◌≤◌, ◌^◌, Bool, true, false, cond, List, [], ◌∷◌, ◌++◌, length, map, Option, unsigned_abs, arith, sym, ap, ◌∙◌, subst}
use Rattle.std.specs.Prelude.{◌&&◌, not}
use Rattle.std.proofs.lemmas.Int.{ints}
use Rattle.std.specs.List.Sorted.{IsStrictlyIncreasing}
use Rattle.fixed_geom.specs.Vectors.{plus}
use Rattle.body_handles.specs.declared.handle.Handle.{Handle}
use Rattle.body_handles.specs.declared.slot_table.SlotEntry.{SlotEntry}
use Rattle.plain_world.specs.Constraints.{constraint_number}
use Rattle.plain_world.specs.declared.constraint.Constraint.{Constraint}
use Rattle.contacts_base.proofs.Members.{Each}
use Rattle.contacts_base.proofs.Rising.{IsRising, increasing_from_rising}
use Rattle.body_handles.specs.Orders.{slot_of}
use Rattle.islands.specs.Labels.{Labels}
use Rattle.solver_sets.specs.Slept.{asleep_only_in, handles_where, sleeps}
use Rattle.contacts_base.specs.Contacts.{AreKeysRising}
use Rattle.contacts_base.specs.declared.contact.ContactEntry.{ContactEntry}
use Rattle.colour_solver.specs.declared.constraint_row.ConstraintRow.{ConstraintRow}
use Rattle.colour_solver.specs.declared.ticks.StepSums.{StepSums}
use Rattle.colour_solver.specs.ConstraintVisits.{contacts_among, joints_among}
use Rattle.colour_solver.specs.Ticks.{AreSums, Run, added, ran, run_of, start}
use Rattle.graph_colours.specs.Colours.{all_members, ids_of}
use Rattle.impulse_ledger.specs.declared.entry.Entry.{Entry}
use Rattle.impulse_ledger.specs.Sums.{Book, Fits, total_of}
use Rattle.momenta.specs.declared.state.BodyState.{BodyState}
use Rattle.plain_world.specs.declared.body.Body.{Body}
use Rattle.plain_world.specs.declared.joint.BodyJoint.{BodyJoint}
use Rattle.plain_world.specs.Bodies.{AreBodies}
use Rattle.plain_world.specs.Momentum.{momentum}
use Rattle.plain_world.specs.Joints.{AreJoints}
use Rattle.plain_world.specs.Plain.{Plain}
use Rattle.plain_world.specs.Sleep.{timed_bodies, told}
use Rattle.plain_world.specs.InSlots.{HaveSameSlots}
use Rattle.sleep_wake.specs.Acting.{Acting, IsConsistent}
use Rattle.sleep_wake.specs.Changes.{after_change, after_changes}
use Rattle.sleep_wake.specs.ChangeLists.{begin_count}
use Rattle.sleep_wake.specs.declared.change.Change.{Change}
use Rattle.sleep_wake.proofs.FoldLemmas.{count_next}
use Rattle.sleep_wake.proofs.StandLemmas.{fewer_coloured}
use Rattle.world_core_base.specs.ConstraintRows.{rows_of, with_joint_rows}
use Rattle.world_core_base.specs.Gather.{states_of, with_motions, with_rows}
use Rattle.world_core_base.specs.ContactBodies.{AreContactsOf}
use Rattle.world_core_base.specs.Renewal.{renewed_bodies}
use Rattle.fixed_geom.specs.declared.vectors.Vec2.{Vec2}
use Rattle.graph_colours.specs.declared.member.Member.{Member}
use Rattle.world_core_base.specs.SolvingArrays.{CanSolve, IsRunOf}
use Rattle.world_core_base.specs.Solving.{Solving, bodies_of, solve_order, solved}
use Rattle.world_core_base.proofs.SolvingLaws.{arrays_are_solving}
use Rattle.world_rules.specs.Apply.{bodies_ticked, rested_acting, step_entries, step_solved}
use Rattle.world_rules.specs.Sets.{acting_of}
use Rattle.solver_sets.specs.Tied.{AreTied}
use Rattle.solver_sets.specs.Alike.{AreTiedAndTold}
use Rattle.world_rules.specs.Sound as sound
use Rattle.world_rules.specs.Sound.{AreSmall, IsRoomy}
use Rattle.world_rules.specs.World.{World}
use Rattle.world_rules.proofs.ActingLaws.{IsActing, acted}
use Rattle.world_rules.proofs.BookLemmas.{AreSmall-step, near, summed-step}
use Rattle.world_rules.proofs.AcceptedAll.{solved_in}
use Rattle.world_rules.proofs.GatherLaws.{can_gather_collided}
use Rattle.world_rules.proofs.KeptStep.{IsTicked, collide_kept, collided_in, collided_world, rested_after, rested_is, ticked, changed_in}
use Rattle.world_rules.proofs.RowLaws.{ticked_of}
use Rattle.world_rules.proofs.SoundLaws.{IsKept}
use Rattle.world_rules.proofs.TickedLaws.{timed_are_bodies}

-- ---- room for what acts

-- no more constraints than there were, and those that began
changed_few : (changes : List (Change Constraint)) (s : Acting Constraint) (room : ℕ) → length s.ties + begin_count changes ≤ room → length (after_changes constraint_number changes s).ties ≤ room
changed_few [] s room h = omega (arith, h)
changed_few (c ∷ changes) s room h = changed_few changes (after_change constraint_number c s) room (count_next constraint_number s room c changes h)

pub few_act : (changes : List (Change Constraint)) (s : Acting Constraint) (room : ℕ) → IsConsistent constraint_number (after_changes constraint_number changes s) → length s.ties + begin_count changes ≤ room → length (all_members (after_changes constraint_number changes s).lists) ≤ room
few_act changes s room consistent h =
    let ties = changed_few changes s room h in
    let fewer = fewer_coloured constraint_number (after_changes constraint_number changes s) consistent in
    omega (arith, ties, fewer)

-- ---- what the ticks leave

ticked_with : (w : World) (states : List BodyState) (rows : List ConstraintRow) (bodies : List (Option Body)) (js : List (Option BodyJoint)) (es : List ContactEntry) (sums : StepSums) → IsKept w
    → with_motions w.plain.bodies states ≡ bodies → with_joint_rows w.plain.joints (joints_among rows) ≡ js → with_rows w.plain.contacts (contacts_among rows) ≡ es
    → AreBodies (renewed_bodies bodies) → HaveSameSlots w.plain.bodies (renewed_bodies bodies) → AreSums (2 ^ 83) sums
    → momentum (renewed_bodies bodies) ≡ plus (momentum w.plain.bodies) (added sums)
    → AreJoints w.plain.bodies js → AreContactsOf w.plain.bodies es → IsTicked w.plain (renewed_bodies bodies) js es sums
ticked_with w states rows bodies js es sums k is_bodies is_joints is_contacts are slots small gain joints pairs =
    let ticks : IsTicked w.plain (renewed_bodies (with_motions w.plain.bodies states)) (with_joint_rows w.plain.joints (joints_among rows)) (with_rows w.plain.contacts (contacts_among rows)) sums =
    ticked_of w states rows sums k
    (subst (λ (l : List (Option Body)). AreBodies (renewed_bodies l)) (sym is_bodies) are)
    (subst (λ (l : List (Option Body)). HaveSameSlots w.plain.bodies (renewed_bodies l)) (sym is_bodies) slots)
    small
    (ap (λ (l : List (Option Body)). momentum (renewed_bodies l)) is_bodies ∙ gain)
    (subst (AreJoints w.plain.bodies) (sym is_joints) joints)
    (subst (AreContactsOf w.plain.bodies) (sym is_contacts) pairs) in
    subst (λ (l : List (Option Body)). IsTicked w.plain (renewed_bodies l) js es sums) is_bodies
    (subst (λ (l : List (Option BodyJoint)). IsTicked w.plain (renewed_bodies (with_motions w.plain.bodies states)) l es sums) is_joints
    (subst (λ (l : List ContactEntry). IsTicked w.plain (renewed_bodies (with_motions w.plain.bodies states)) (with_joint_rows w.plain.joints (joints_among rows)) l sums) is_contacts ticks))

-- what the ticks of a step leave, where it is within its limits
pub ticked_in : (w : World) (n : ℕ) (bodies : List (Option Body)) (js : List (Option BodyJoint)) (es : List ContactEntry) (sums : StepSums) → IsKept w → AreKeysRising (collided_in w).now
    → let now : Plain = (collided_world w).plain in
    bodies ≡ renewed_bodies (bodies_of (solved_in w n)) → js ≡ (solved_in w n).joints → es ≡ (solved_in w n).contacts → sums ≡ (solved_in w n).sums
    → AreBodies bodies → HaveSameSlots now.bodies bodies → AreSums (2 ^ 83) sums → momentum bodies ≡ plus (momentum now.bodies) (added sums)
    → AreJoints now.bodies js → AreContactsOf now.bodies es → IsTicked now (renewed_bodies (bodies_of (solved_in w n))) (solved_in w n).joints (solved_in w n).contacts (solved_in w n).sums
ticked_in w n bodies js es sums k rises is_bodies is_joints is_contacts is_sums are slots small gain joints pairs =
    let now : World = collided_world w in
    let s : Solving = solved_in w n in
    let can = can_gather_collided w k rises in
    let run = arrays_are_solving n w.plain.gravity now.plain.bodies now.plain.joints now.plain.contacts (changed_in w).lists can.rising can.once in
    let r : Run = ran n w.plain.gravity (start (states_of now.plain.bodies) (rows_of (states_of now.plain.bodies) now.plain.joints now.plain.contacts (changed_in w).lists)) in
    ticked_with now r.states r.rows (bodies_of s) s.joints s.contacts s.sums (collide_kept w k rises).kept run.bodies_left run.joints_left run.contacts_left
    (subst AreBodies is_bodies are) (subst (HaveSameSlots now.plain.bodies) is_bodies slots) (subst (AreSums (2 ^ 83)) is_sums small)
    (sym (ap momentum is_bodies) ∙ gain ∙ ap (λ (t : StepSums). plus (momentum now.plain.bodies) (added t)) is_sums)
    (subst (AreJoints now.plain.bodies) is_joints joints) (subst (AreContactsOf now.plain.bodies) is_contacts pairs)

-- ---- the entry of those that fall asleep fits

pub Fits-rest : (b new : Book) (e : Entry) (call : ℕ) (s : StepSums) → IsRoomy b → AreSums (2 ^ 83) s → new.entries ≡ b.entries ++ step_entries call s → new.settled ≡ b.settled → unsigned_abs e.x ≤ 2 ^ 78 → unsigned_abs e.y ≤ 2 ^ 78 → Fits new e
Fits-rest b new e call s r small entries settled ex ey =
    let before : AreSmall (2 ^ 126 + 2 ^ 123) (record { entries = b.entries; settled = b.settled; room = 0 }) = record { x = r.causes.x; y = r.causes.y } in
    let after : AreSmall (2 ^ 126 + 2 ^ 123 + 2 ^ 83) (record { entries = b.entries ++ step_entries call s; settled = b.settled; room = 0 }) = AreSmall-step (2 ^ 126 + 2 ^ 123) (2 ^ 83) b.entries b.settled call s small before in
    let book : Book = record { entries = b.entries ++ step_entries call s; settled = b.settled; room = 0 } in
    record {
      x = rw (entries, settled, summed-step b.entries call s) (let r_x = r.x in let g = small.gravity.x in let i = small.immovable.x in let c = small.clamp.x in omega (arith, ints));
      y = rw (entries, settled, summed-step b.entries call s) (let r_y = r.y in let g = small.gravity.y in let i = small.immovable.y in let c = small.clamp.y in omega (arith, ints));
      of_cause_x = rw (entries, settled) (let n = near (total_of e.cause book).x e.x (2 ^ 126 + 2 ^ 123 + 2 ^ 83) (2 ^ 78) (after.x e.cause) ex in omega (arith, n));
      of_cause_y = rw (entries, settled) (let n = near (total_of e.cause book).y e.y (2 ^ 126 + 2 ^ 123 + 2 ^ 83) (2 ^ 78) (after.y e.cause) ey in omega (arith, n));
    }

-- ---- who acts in the end

-- the constraints, the islands and the colours that the sleep phase leaves are those of the lists
pub step_acting : (w : World) (n : ℕ) (s : Solving) → IsKept w → AreKeysRising (collided_in w).now → IsTicked (collided_world w).plain (renewed_bodies (bodies_of s)) s.joints s.contacts s.sums
    → acting_of (step_solved w.plain n (collided_in w) (changed_in w) s).plain ≡ rested_acting (bodies_ticked n s) s.joints s.contacts (changed_in w)
step_acting w n s k rises t =
    let is = collide_kept w k rises in
    let bodies : List (Option Body) = renewed_bodies (bodies_of s) in
    let rested : Acting Constraint = rested_acting (timed_bodies n bodies) s.joints s.contacts (changed_in w) in
    let same : rested ≡ rested_after (collided_world w).plain n bodies s.joints s.contacts = ap (rested_acting (timed_bodies n bodies) s.joints s.contacts) (sym is.acting) in
    let after : Plain = ticked (collided_world w).plain n bodies s.joints s.contacts in
    let acts : IsActing after rested = subst (IsActing after) (sym same) (rested_is (collided_world w) n bodies s.joints s.contacts s.sums is.kept t) in
    (acted after rested (timed_are_bodies n bodies t.bodies) acts).acting

-- ---- handles that rise by slot

below_head : (t : Bool) (n : ℕ) (h : Handle) (hs : List Handle) → n < h.slot → Each (λ s. n < s) (map slot_of hs) → Each (λ s. n < s) (map slot_of (cond t (h ∷ hs) hs))
below_head true n h hs lt rest = (lt, rest)
below_head false n h hs lt rest = rest

above : (test : ℕ → Bool) (n slot : ℕ) (slot_entries : List SlotEntry) → n < slot → Each (λ s. n < s) (map slot_of (handles_where test slot slot_entries))
above test n slot [] lt = tt
above test n slot (p ∷ slot_entries) lt = below_head (test slot) n (record { slot = slot; generation = p.generation }) (handles_where test (suc slot) slot_entries) lt (above test n (suc slot) slot_entries (omega (arith, lt)))

rise_head : (t : Bool) (h : Handle) (hs : List Handle) → Each (λ s. h.slot < s) (map slot_of hs) → IsRising (map slot_of hs) → IsRising (map slot_of (cond t (h ∷ hs) hs))
rise_head true h hs lt rest = (lt, rest)
rise_head false h hs lt rest = rest

handles_rise : (test : ℕ → Bool) (slot : ℕ) (slot_entries : List SlotEntry) → IsRising (map slot_of (handles_where test slot slot_entries))
handles_rise test slot [] = tt
handles_rise test slot (p ∷ slot_entries) = rise_head (test slot) (record { slot = slot; generation = p.generation }) (handles_where test (suc slot) slot_entries) (above test slot (suc slot) slot_entries (omega arith)) (handles_rise test (suc slot) slot_entries)

pub asleep_rise : (slot_entries : List SlotEntry) (others labels : Labels) → IsStrictlyIncreasing (map slot_of (asleep_only_in slot_entries others labels))
unfolding asleep_only_in
asleep_rise slot_entries others labels = increasing_from_rising (map slot_of (asleep_only_in slot_entries others labels)) (handles_rise (λ slot. sleeps labels slot && not (sleeps others slot)) 0 slot_entries)

-- ---- the arrays of a step

-- what the arrays leave is what the ticks leave by their definition
pub record IsLeft (bodies : List (Option Body)) (joints : List (Option BodyJoint)) (contacts : List ContactEntry) (states : List BodyState) (rows : List ConstraintRow) (sums : StepSums) (s : Solving) : Type 0 where
  pub bodies_left : with_motions bodies states ≡ bodies_of s
  pub joints_left : with_joint_rows joints (joints_among rows) ≡ s.joints
  pub contacts_left : with_rows contacts (contacts_among rows) ≡ s.contacts
  pub sums_left : sums ≡ s.sums

abbrev sums_in : Run → StepSums
sums_in q = record { gravity = record { x = q.gravity.x; y = q.gravity.y }; immovable = record { x = q.immovable.x; y = q.immovable.y }; clamp = record { x = q.clamp.x; y = q.clamp.y } }

left_as : (bodies : List (Option Body)) (joints : List (Option BodyJoint)) (contacts : List ContactEntry) (r : Run) (s : Solving) (rows : List ConstraintRow) (sums : StepSums) → IsRunOf bodies joints contacts r s → run_of r.states rows sums ≡ r → IsLeft bodies joints contacts r.states rows sums s
left_as bodies joints contacts r s rows sums is e =
    let same : run_of r.states rows sums ≡ run_of r.states r.rows s.sums = e ∙ is.sums in
    let same_rows : rows ≡ r.rows = ap (λ (q : Run). q.rows) e in
    record {
      bodies_left = is.bodies_left;
      joints_left = ap (λ (l : List ConstraintRow). with_joint_rows joints (joints_among l)) same_rows ∙ is.joints_left;
      contacts_left = ap (λ (l : List ConstraintRow). with_rows contacts (contacts_among l)) same_rows ∙ is.contacts_left;
      sums_left = ap sums_in same;
    }

pub arrays_left : (n : ℕ) (g : Vec2) (bodies : List (Option Body)) (joints : List (Option BodyJoint)) (contacts : List ContactEntry) (lists : List (List (Member Constraint))) (rows left : List ConstraintRow) (sums : StepSums) → AreKeysRising contacts → CanSolve bodies joints (solve_order (ids_of lists)) → rows ≡ rows_of (states_of bodies) joints contacts lists
    → run_of (ran n g (start (states_of bodies) rows)).states left sums ≡ ran n g (start (states_of bodies) rows)
    → IsLeft bodies joints contacts (ran n g (start (states_of bodies) rows)).states left sums (solved n g (solve_order (ids_of lists)) bodies joints contacts)
arrays_left n g bodies joints contacts lists rows left sums rising can gathered e =
    let s : Solving = solved n g (solve_order (ids_of lists)) bodies joints contacts in
    let run : IsRunOf bodies joints contacts (ran n g (start (states_of bodies) rows)) s =
    subst (λ (l : List ConstraintRow). IsRunOf bodies joints contacts (ran n g (start (states_of bodies) l)) s) (sym gathered) (arrays_are_solving n g bodies joints contacts lists rising can) in
    left_as bodies joints contacts (ran n g (start (states_of bodies) rows)) s left sums run e

-- ---- who fell asleep and who woke

-- the two forms of 'just the movers have labels, and each body sleeps just if its label does'
pub told_as : (bodies : List (Option Body)) (labels : Labels) → AreTied bodies labels → sound.AreTold bodies labels → AreTiedAndTold bodies labels
told_as bodies labels are told = record { tied = are; asleep = told }
