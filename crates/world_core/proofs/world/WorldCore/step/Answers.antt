use Rattle.std.proofs.Common.{◌≡◌, ◌<◌, ◌≤◌, ◌^◌, ◌∙◌, false, List, Option, length, map, replicate, refl, sym, ap, subst, arith, Err}
use mir.Syntax.{w64}
use mir.Val.{of_z, to_z}
use Rattle.std.proofs.lemmas.Int.{to_z-of_z}
use Rattle.fixed_geom.specs.declared.refusal.Refusal.TheVariants.{NoMemory}
use Rattle.std.specs.List.Sorted.{IsStrictlyIncreasing}
use Rattle.body_handles.specs.declared.handle.Handle.{Handle}
use Rattle.body_handles.specs.declared.slot_table.SlotEntry.{SlotEntry}
use Rattle.body_handles.specs.Orders.{slot_of}
use Rattle.contacts_base.specs.Contacts.{number_of}
use Rattle.contacts_base.specs.declared.contact.ContactEntry.{ContactEntry}
use Rattle.contacts_base.specs.declared.key.ContactKey.{ContactKey}
use Rattle.colour_solver.specs.States.{as_vector}
use Rattle.plain_world.specs.Sleep.{timed_bodies}
use Rattle.solver_sets.specs.SinceTold.{newly_asleep, newly_awake}
use Rattle.world_core_base.specs.Awake.{Bodies}
use Rattle.world_core_base.proofs.ContactAsleepLaws.{contacts_alike}
use Rattle.world_core_base.proofs.JointAsleepLaws.{joints_alike, joints_by_ends}
use Rattle.world_rules.specs.World.{World}
use Rattle.world_rules.proofs.AcceptedAll.{few_ticks}
use Rattle.world_rules.proofs.KeptChanges.{IsRoomy-kept, IsRoomy-same}
use Rattle.world_rules.proofs.KeptStep.{collided_in}
use Rattle.world_core.specs.contracts.world.WorldCore.{the_view}
use Rattle.world_core.proofs.PartLaws.{kept_of, whole}
use Rattle.world_core.proofs.ReadyLaws.{core_ready, ready_still}
use Rattle.world_core.proofs.StepLaws.{AreCounted, AreFound, AreLeft, AreTicks, HasSolved, HasChanged, apart_changed, are_counted, bodies_changed, can_solve_changed, can_tell_solved, can_change_found, few_solved, few_changed, has_solved, has_changed, is_refusal, movers_changed, room_found, room_changed, consistent_found, consistent_changed, slept_rise, step_answers, step_is_left, step_refused, tell_solved, ticks_refused, tied_solved, ties_solved, timers_room, timers_solved, told_solved, woke_rise}
use Rattle.world_core.proofs.ContactTurnLaws.{turned_found}
use Rattle.world_core.proofs.CoreLaws.{core_stepped}
use Rattle.world_core.proofs.KnownLaws.{marked_after}
use Rattle.world_core.proofs.world.WorldCore.step.Given as given
use Rattle.world_core.proofs.world.WorldCore.step.Goals as goal
use Rattle.world_core.proofs.world.WorldCore.step.Goals.{After-commit_collide, After-renew_events, After-rest_after_ticks-rest, After-solve-sums}

pub returns-in_err-ticks : goal.returns-in_err-ticks
returns-in_err-ticks g c =
    let same : to_z w64 (of_z w64 c.args.ticks) ≡ c.args.ticks = grind (arith, to_z-of_z) in
    ticks_refused _ c.args.ticks _ _ _ same c.in_err-ticks.ensures c.from_residual.ensures.0 c.from_residual.ensures.1

-- ---- what is prepared

pub prepare-requires-clause-few : goal.prepare-requires-clause-few
prepare-requires-clause-few g c = (kept_of _ _ c.self.invariant.whole).matched.few

pub prepare-requires-clause-bodies : goal.prepare-requires-clause-bodies
prepare-requires-clause-bodies g c = (kept_of _ _ c.self.invariant.whole).bodies

pub prepare-requires-clause-known : goal.prepare-requires-clause-known
prepare-requires-clause-known g c = c.self.invariant.known

pub prepare-requires-clause-consistent : goal.prepare-requires-clause-consistent
prepare-requires-clause-consistent g c = consistent_found (the_view c.self.inside) c.self.inside.activity.sets.acting c.self.inside.activity.sets.acting c.self.invariant.whole refl

pub returns-in_err-prepared : goal.returns-in_err-prepared
returns-in_err-prepared g c =
    let same : to_z w64 (of_z w64 c.args.ticks) ≡ c.args.ticks = grind (arith, to_z-of_z) in
    let counted : AreCounted c.args.ticks c.in_ok-ticks.ticks = are_counted c.args.ticks _ c.in_ok-ticks.ticks same c.in_ok-ticks.ensures in
    let refused : c.from_residual-in_err-prepared.result ≡ Err NoMemory = is_refusal _ _ c.from_residual-in_err-prepared.ensures.0 c.from_residual-in_err-prepared.ensures.1 c.in_err-prepared.ensures.memory_only in
    rw (← c.self.view_is) (step_refused (the_view c.self.inside) _ c.args.ticks _ counted.between refused (rw (c.in_err-prepared.ensures.bodies, c.in_err-prepared.ensures.joints, c.in_err-prepared.ensures.contacts, c.in_err-prepared.ensures.acting, c.in_err-prepared.ensures.entries, c.in_err-prepared.ensures.settled) refl))

-- a step that is refused leaves the world as it was
pub invariant_of-self : goal.invariant_of-self
invariant_of-self g c =
    rw (c.in_err-prepared.ensures.bodies, c.in_err-prepared.ensures.marks, c.in_err-prepared.ensures.joints, c.in_err-prepared.ensures.contacts, c.in_err-prepared.ensures.numbered, c.in_err-prepared.ensures.acting, c.in_err-prepared.ensures.joint_sets, c.in_err-prepared.ensures.entries, c.in_err-prepared.ensures.settled)
    (record {
      whole = c.self.invariant.whole;
      known = c.self.invariant.known;
      standing = c.self.invariant.standing;
      contacts_standing = c.in_err-prepared.ensures.contacts_standing;
    })

-- ---- what is carried out before the ticks

found_at_first : (g : given.Over) (c : goal.After-prepared-2-1 g) → AreFound (the_view c.self.inside) c.in_ok-prepared.prepared.changes.items
found_at_first g c = rw (c.in_ok-prepared.ensures.begin, c.in_ok-prepared.ensures.end) at c.in_ok-prepared.ensures.changes

pub commit_collide-requires-clause-ready : goal.commit_collide-requires-clause-ready
commit_collide-requires-clause-ready g c =
    rw c.slot_entries.ensures
    (ready_still c.self.inside.activity _ _ c.self.inside.constraints _ (core_ready c.self.inside c.self.invariant) c.in_ok-prepared.ensures.bodies c.in_ok-prepared.ensures.acting (rw c.in_ok-prepared.ensures.joints refl) c.in_ok-prepared.ensures.contacts
    (rw (c.in_ok-prepared.ensures.bodies, c.in_ok-prepared.ensures.joints, c.in_ok-prepared.ensures.joint_sets) c.self.invariant.standing) (rw (c.in_ok-prepared.ensures.bodies, c.in_ok-prepared.ensures.numbered) c.in_ok-prepared.ensures.contacts_standing))

pub commit_collide-requires-clause-can : goal.commit_collide-requires-clause-can
commit_collide-requires-clause-can g c = can_change_found (the_view c.self.inside) c.self.inside.activity.sets.acting c.prepare.new.activity.sets.acting c.in_ok-prepared.prepared.changes.items c.self.invariant.whole c.in_ok-prepared.ensures.acting (found_at_first g c)

pub commit_collide-requires-clause-room : goal.commit_collide-requires-clause-room
commit_collide-requires-clause-room g c =
    let count : length c.in_ok-prepared.prepared.touches.begin.items ≡ length (collided_in (the_view c.self.inside)).begin = ap (λ (keys : List ContactKey). length keys) c.in_ok-prepared.ensures.begin in
    room_found (the_view c.self.inside) c.self.inside.activity.sets.acting c.prepare.new.activity.sets.acting c.in_ok-prepared.prepared.changes.items (length c.in_ok-prepared.prepared.touches.begin.items) c.prepare.new.activity.sets.room c.self.invariant.whole c.in_ok-prepared.ensures.acting (found_at_first g c) count c.in_ok-prepared.ensures.for_ties

pub commit_collide-requires-clause-turned : goal.commit_collide-requires-clause-turned
commit_collide-requires-clause-turned g c =
    rw (c.in_ok-prepared.ensures.bodies, c.in_ok-prepared.ensures.contacts)
    (turned_found (the_view c.self.inside) c.self.inside.activity.sets.acting c.prepare.new.activity.sets.acting c.in_ok-prepared.prepared.changes.items c.prepare.new.constraints.contacts.pending c.self.invariant.whole c.in_ok-prepared.ensures.acting (found_at_first g c) c.in_ok-prepared.ensures.pending)

pub commit_collide-requires-clause-sleepers : goal.commit_collide-requires-clause-sleepers
commit_collide-requires-clause-sleepers g c = rw c.in_ok-prepared.ensures.acting c.in_ok-prepared.ensures.sleepers

-- ---- the ticks

changed_then : (g : given.Over) (c : After-commit_collide g) → HasChanged (the_view c.self.inside) c.commit_collide.new.activity.sets.acting c.commit_collide.new.activity.bodies.bodies c.commit_collide.new.constraints.contacts.contacts
changed_then g c =
    has_changed (the_view c.self.inside) c.self.inside.activity.sets.acting c.prepare.new.activity.sets.acting c.commit_collide.new.activity.sets.acting c.in_ok-prepared.prepared.changes.items c.commit_collide.new.activity.bodies.bodies c.commit_collide.new.constraints.contacts.contacts c.self.invariant.whole c.in_ok-prepared.ensures.acting (rw (c.in_ok-prepared.ensures.begin, c.in_ok-prepared.ensures.end) at c.in_ok-prepared.ensures.changes)
    c.commit_collide.ensures.acting (rw c.in_ok-prepared.ensures.bodies at c.commit_collide.ensures.bodies) (c.commit_collide.ensures.contacts ∙ c.in_ok-prepared.ensures.pending)

pub solve-sums-requires-clause-few : goal.solve-sums-requires-clause-few
solve-sums-requires-clause-few g c = few_changed (the_view c.self.inside) c.self.inside.activity.sets.acting c.commit_collide.new.activity.sets.acting c.commit_collide.new.activity.bodies.bodies c.commit_collide.new.constraints.contacts.contacts c.self.invariant.whole (changed_then g (goal.at.solve-sums-requires-clause-few g c).After-commit_collide)

pub solve-sums-requires-clause-bodies : goal.solve-sums-requires-clause-bodies
solve-sums-requires-clause-bodies g c = bodies_changed (the_view c.self.inside) c.self.inside.activity.sets.acting c.commit_collide.new.activity.sets.acting c.commit_collide.new.activity.bodies.bodies c.commit_collide.new.constraints.contacts.contacts c.self.invariant.whole (changed_then g (goal.at.solve-sums-requires-clause-bodies g c).After-commit_collide)

pub solve-sums-requires-clause-can : goal.solve-sums-requires-clause-can
solve-sums-requires-clause-can g c = rw (c.colours.ensures.lists, c.commit_collide.ensures.joints, c.in_ok-prepared.ensures.joints) (can_solve_changed (the_view c.self.inside) c.self.inside.activity.sets.acting c.commit_collide.new.activity.sets.acting c.commit_collide.new.activity.bodies.bodies c.commit_collide.new.constraints.contacts.contacts c.self.invariant.whole (changed_then g (goal.at.solve-sums-requires-clause-can g c).After-commit_collide))

pub solve-sums-requires-clause-ticks : goal.solve-sums-requires-clause-ticks
solve-sums-requires-clause-ticks g c =
    let same : to_z w64 (of_z w64 c.args.ticks) ≡ c.args.ticks = grind (arith, to_z-of_z) in
    let counted : AreCounted c.args.ticks c.in_ok-ticks.ticks = are_counted c.args.ticks _ c.in_ok-ticks.ticks same c.in_ok-ticks.ensures in
    rw counted.count (few_ticks c.args.ticks counted.between)

pub solve-sums-requires-clause-apart : goal.solve-sums-requires-clause-apart
solve-sums-requires-clause-apart g c = rw c.colours.ensures.lists (apart_changed (the_view c.self.inside) c.self.inside.activity.sets.acting c.commit_collide.new.activity.sets.acting c.commit_collide.new.activity.bodies.bodies c.commit_collide.new.constraints.contacts.contacts c.self.invariant.whole (changed_then g (goal.at.solve-sums-requires-clause-apart g c).After-commit_collide))

pub solve-sums-requires-clause-movers : goal.solve-sums-requires-clause-movers
solve-sums-requires-clause-movers g c = rw (c.colours.ensures.lists, c.commit_collide.ensures.joints, c.in_ok-prepared.ensures.joints) (movers_changed (the_view c.self.inside) c.self.inside.activity.sets.acting c.commit_collide.new.activity.sets.acting c.commit_collide.new.activity.bodies.bodies c.commit_collide.new.constraints.contacts.contacts c.self.invariant.whole (changed_then g (goal.at.solve-sums-requires-clause-movers g c).After-commit_collide))

pub solve-sums-requires-clause-room : goal.solve-sums-requires-clause-room
solve-sums-requires-clause-room g c =
    let count : length c.in_ok-prepared.prepared.touches.begin.items ≡ length (collided_in (the_view c.self.inside)).begin = ap (λ (keys : List ContactKey). length keys) c.in_ok-prepared.ensures.begin in
    rw c.colours.ensures.lists (room_changed (the_view c.self.inside) c.self.inside.activity.sets.acting c.prepare.new.activity.sets.acting c.commit_collide.new.activity.sets.acting c.commit_collide.new.activity.bodies.bodies c.commit_collide.new.constraints.contacts.contacts (length c.in_ok-prepared.prepared.touches.begin.items) c.prepare.new.gathered.rows.room c.self.invariant.whole (changed_then g (goal.at.solve-sums-requires-clause-room g c).After-commit_collide) c.in_ok-prepared.ensures.acting count (rw c.in_ok-prepared.ensures.acting c.in_ok-prepared.ensures.for_rows))

-- ---- the sleep phase

changed : (g : given.Over) (c : After-solve-sums g) → HasChanged (the_view c.self.inside) c.commit_collide.new.activity.sets.acting c.commit_collide.new.activity.bodies.bodies c.commit_collide.new.constraints.contacts.contacts
changed g c =
    has_changed (the_view c.self.inside) c.self.inside.activity.sets.acting c.prepare.new.activity.sets.acting c.commit_collide.new.activity.sets.acting c.in_ok-prepared.prepared.changes.items c.commit_collide.new.activity.bodies.bodies c.commit_collide.new.constraints.contacts.contacts c.self.invariant.whole c.in_ok-prepared.ensures.acting (rw (c.in_ok-prepared.ensures.begin, c.in_ok-prepared.ensures.end) at c.in_ok-prepared.ensures.changes)
    c.commit_collide.ensures.acting (rw c.in_ok-prepared.ensures.bodies at c.commit_collide.ensures.bodies) (c.commit_collide.ensures.contacts ∙ c.in_ok-prepared.ensures.pending)

solved : (g : given.Over) (c : After-solve-sums g) → HasSolved (the_view c.self.inside) c.in_ok-ticks.ticks c.solve-sums.new.bodies.bodies c.solve-sums.new.constraints.joints.joints c.solve-sums.new.constraints.contacts.contacts c.solve-sums.result
solved g c =
    let to_bodies = rw (c.colours.ensures.lists, c.commit_collide.ensures.joints, c.in_ok-prepared.ensures.joints) at c.solve-sums.ensures.bodies in
    let to_joints = rw (c.colours.ensures.lists, c.commit_collide.ensures.joints, c.in_ok-prepared.ensures.joints) at c.solve-sums.ensures.joints in
    let to_contacts = rw (c.colours.ensures.lists, c.commit_collide.ensures.joints, c.in_ok-prepared.ensures.joints) at c.solve-sums.ensures.contacts in
    let to_sums = rw (c.colours.ensures.lists, c.commit_collide.ensures.joints, c.in_ok-prepared.ensures.joints) at c.solve-sums.ensures.sums in
    let are : AreTicks c.commit_collide.new.activity.bodies.bodies c.solve-sums.new.bodies.bodies c.solve-sums.new.constraints.joints.joints c.solve-sums.new.constraints.contacts.contacts c.solve-sums.result = record {
      bodies = c.solve-sums.ensures.all_bodies;
      slots = c.solve-sums.ensures.slots;
      small = c.solve-sums.ensures.small;
      gain = c.solve-sums.ensures.momentum;
      joints = c.solve-sums.ensures.all_joints;
      pairs = c.solve-sums.ensures.pairs;
    } in
    has_solved (the_view c.self.inside) c.in_ok-ticks.ticks c.self.inside.activity.sets.acting c.commit_collide.new.activity.sets.acting c.commit_collide.new.activity.bodies.bodies c.solve-sums.new.bodies.bodies c.solve-sums.new.constraints.joints.joints c.commit_collide.new.constraints.contacts.contacts c.solve-sums.new.constraints.contacts.contacts c.solve-sums.result c.self.invariant.whole (changed g c) to_bodies to_joints to_contacts to_sums are

pub rest_after_ticks-rest-requires-clause-ready : goal.rest_after_ticks-rest-requires-clause-ready
rest_after_ticks-rest-requires-clause-ready g c =
    let same = c.solve-sums.ensures.slots.slots in record {
      few_bodies = few_solved (the_view c.self.inside) c.in_ok-ticks.ticks c.self.inside.activity.sets.acting c.solve-sums.new.bodies.bodies c.solve-sums.new.constraints.joints.joints c.solve-sums.new.constraints.contacts.contacts c.solve-sums.result c.self.invariant.whole (solved g (goal.at.rest_after_ticks-rest-requires-clause-ready g c).After-solve-sums);
      bodies = c.solve-sums.ensures.all_bodies;
      told = told_solved (the_view c.self.inside) c.in_ok-ticks.ticks c.self.inside.activity.sets.acting c.commit_collide.new.activity.sets.acting c.commit_collide.new.activity.bodies.bodies c.solve-sums.new.bodies.bodies c.solve-sums.new.constraints.joints.joints c.commit_collide.new.constraints.contacts.contacts c.solve-sums.new.constraints.contacts.contacts c.solve-sums.result c.self.invariant.whole (changed g (goal.at.rest_after_ticks-rest-requires-clause-ready g c).After-solve-sums) (solved g (goal.at.rest_after_ticks-rest-requires-clause-ready g c).After-solve-sums);
      consistent = consistent_changed (the_view c.self.inside) c.self.inside.activity.sets.acting c.commit_collide.new.activity.sets.acting c.commit_collide.new.activity.bodies.bodies c.commit_collide.new.constraints.contacts.contacts c.self.invariant.whole (changed g (goal.at.rest_after_ticks-rest-requires-clause-ready g c).After-solve-sums);
      can_tell = rw c.slot_entries-3.ensures (can_tell_solved (the_view c.self.inside) c.in_ok-ticks.ticks c.self.inside.activity.sets.acting c.solve-sums.new.bodies.bodies c.solve-sums.new.constraints.joints.joints c.solve-sums.new.constraints.contacts.contacts c.solve-sums.result c.self.invariant.whole (solved g (goal.at.rest_after_ticks-rest-requires-clause-ready g c).After-solve-sums));
      ties = rw c.slot_entries-3.ensures (ties_solved (the_view c.self.inside) c.in_ok-ticks.ticks c.self.inside.activity.sets.acting c.commit_collide.new.activity.sets.acting c.commit_collide.new.activity.bodies.bodies c.solve-sums.new.bodies.bodies c.solve-sums.new.constraints.joints.joints c.commit_collide.new.constraints.contacts.contacts c.solve-sums.new.constraints.contacts.contacts c.solve-sums.result c.self.invariant.whole (changed g (goal.at.rest_after_ticks-rest-requires-clause-ready g c).After-solve-sums) (solved g (goal.at.rest_after_ticks-rest-requires-clause-ready g c).After-solve-sums));
      -- a solve moves nobody to another set, and leaves the ends of joints
      standing = joints_by_ends c.solve-sums.new.bodies.bodies c.commit_collide.new.constraints.joints.joints c.solve-sums.new.constraints.joints.joints c.commit_collide.new.activity.joint_sets c.solve-sums.ensures.ends
          (joints_alike c.commit_collide.new.activity.bodies.bodies c.solve-sums.new.bodies.bodies c.commit_collide.new.constraints.joints.joints c.commit_collide.new.activity.joint_sets (omega (arith, same)) c.solve-sums.ensures.asleep c.commit_collide.ensures.standing);
      contacts_standing = rw c.solve-sums.ensures.numbered (contacts_alike c.commit_collide.new.activity.bodies.bodies c.solve-sums.new.bodies.bodies c.commit_collide.new.constraints.contacts.numbered c.commit_collide.new.activity.contact_sets (omega (arith, same)) c.solve-sums.ensures.asleep c.commit_collide.ensures.contacts_standing);
    }

pub rest_after_ticks-rest-requires-clause-tied : goal.rest_after_ticks-rest-requires-clause-tied
rest_after_ticks-rest-requires-clause-tied g c = tied_solved (the_view c.self.inside) c.in_ok-ticks.ticks c.self.inside.activity.sets.acting c.commit_collide.new.activity.sets.acting c.commit_collide.new.activity.bodies.bodies c.solve-sums.new.bodies.bodies c.solve-sums.new.constraints.joints.joints c.commit_collide.new.constraints.contacts.contacts c.solve-sums.new.constraints.contacts.contacts c.solve-sums.result c.self.invariant.whole (changed g (goal.at.rest_after_ticks-rest-requires-clause-tied g c).After-solve-sums) (solved g (goal.at.rest_after_ticks-rest-requires-clause-tied g c).After-solve-sums)

pub rest_after_ticks-rest-requires-clause-within : goal.rest_after_ticks-rest-requires-clause-within
rest_after_ticks-rest-requires-clause-within g c = timers_solved (the_view c.self.inside) c.in_ok-ticks.ticks c.self.inside.activity.sets.acting c.solve-sums.new.bodies.bodies c.solve-sums.new.constraints.joints.joints c.solve-sums.new.constraints.contacts.contacts c.solve-sums.result c.self.invariant.whole (solved g (goal.at.rest_after_ticks-rest-requires-clause-within g c).After-solve-sums)

pub rest_after_ticks-rest-requires-clause-ticks : goal.rest_after_ticks-rest-requires-clause-ticks
rest_after_ticks-rest-requires-clause-ticks g c =
    let same : to_z w64 (of_z w64 c.args.ticks) ≡ c.args.ticks = grind (arith, to_z-of_z) in
    let counted : AreCounted c.args.ticks c.in_ok-ticks.ticks = are_counted c.args.ticks _ c.in_ok-ticks.ticks same c.in_ok-ticks.ensures in
    rw counted.count (few_ticks c.args.ticks counted.between)

pub rest_after_ticks-rest-requires-clause-timers : goal.rest_after_ticks-rest-requires-clause-timers
rest_after_ticks-rest-requires-clause-timers g c = rw (timers_room (the_view c.self.inside) c.in_ok-ticks.ticks c.self.inside.activity.sets.acting c.solve-sums.new.bodies.bodies c.solve-sums.new.constraints.joints.joints c.solve-sums.new.constraints.contacts.contacts c.solve-sums.result c.self.invariant.whole (solved g (goal.at.rest_after_ticks-rest-requires-clause-timers g c).After-solve-sums)) c.in_ok-prepared.ensures.for_timers

pub rest_after_ticks-rest-requires-clause-awake_flags : goal.rest_after_ticks-rest-requires-clause-awake_flags
rest_after_ticks-rest-requires-clause-awake_flags g c = rw (timers_room (the_view c.self.inside) c.in_ok-ticks.ticks c.self.inside.activity.sets.acting c.solve-sums.new.bodies.bodies c.solve-sums.new.constraints.joints.joints c.solve-sums.new.constraints.contacts.contacts c.solve-sums.result c.self.invariant.whole (solved g (goal.at.rest_after_ticks-rest-requires-clause-awake_flags g c).After-solve-sums)) c.in_ok-prepared.ensures.for_awake_flags

pub rest_after_ticks-rest-requires-clause-slept : goal.rest_after_ticks-rest-requires-clause-slept
rest_after_ticks-rest-requires-clause-slept g c = rw (timers_room (the_view c.self.inside) c.in_ok-ticks.ticks c.self.inside.activity.sets.acting c.solve-sums.new.bodies.bodies c.solve-sums.new.constraints.joints.joints c.solve-sums.new.constraints.contacts.contacts c.solve-sums.result c.self.invariant.whole (solved g (goal.at.rest_after_ticks-rest-requires-clause-slept g c).After-solve-sums)) c.in_ok-prepared.ensures.for_slept

pub rest_after_ticks-rest-requires-clause-slot_entries : goal.rest_after_ticks-rest-requires-clause-slot_entries
rest_after_ticks-rest-requires-clause-slot_entries g c =
    let slots : length c.self.inside.handles.slot_entries ≡ length c.self.inside.activity.bodies.bodies = (kept_of _ _ c.self.invariant.whole).matched.slots in
    let there : length c.slot_entries-4.result.now ≡ length c.self.inside.handles.slot_entries = ap (λ (ps : List SlotEntry). length ps) c.slot_entries-4.ensures in
    let long = timers_room (the_view c.self.inside) c.in_ok-ticks.ticks c.self.inside.activity.sets.acting c.solve-sums.new.bodies.bodies c.solve-sums.new.constraints.joints.joints c.solve-sums.new.constraints.contacts.contacts c.solve-sums.result c.self.invariant.whole (solved g (goal.at.rest_after_ticks-rest-requires-clause-slot_entries g c).After-solve-sums) in
    omega (arith, slots, there, long)

pub rest_after_ticks-rest-requires-clause-slots : goal.rest_after_ticks-rest-requires-clause-slots
rest_after_ticks-rest-requires-clause-slots g c =
    let slots : length c.self.inside.handles.slot_entries ≡ length c.self.inside.activity.bodies.bodies = (kept_of _ _ c.self.invariant.whole).matched.slots in
    let there : length c.slot_entries-4.result.now ≡ length c.self.inside.handles.slot_entries = ap (λ (ps : List SlotEntry). length ps) c.slot_entries-4.ensures in
    omega (arith, slots, there, c.in_ok-prepared.ensures.for_slots)

pub rest_after_ticks-rest-requires-clause-tells : goal.rest_after_ticks-rest-requires-clause-tells
rest_after_ticks-rest-requires-clause-tells g c = tell_solved (the_view c.self.inside) c.in_ok-ticks.ticks c.self.inside.activity.sets.acting c.commit_collide.new.activity.sets.acting c.commit_collide.new.activity.bodies.bodies c.solve-sums.new.bodies.bodies c.solve-sums.new.constraints.joints.joints c.commit_collide.new.constraints.contacts.contacts c.solve-sums.new.constraints.contacts.contacts c.solve-sums.result c.self.invariant.whole (changed g (goal.at.rest_after_ticks-rest-requires-clause-tells g c).After-solve-sums) (solved g (goal.at.rest_after_ticks-rest-requires-clause-tells g c).After-solve-sums)

-- ---- what is recorded

fell : (g : given.Over) (c : After-rest_after_ticks-rest g) → c.rest_after_ticks-rest.new.scratch.slept.items ≡ newly_asleep c.self.inside.handles.slot_entries (timed_bodies c.in_ok-ticks.ticks c.solve-sums.new.bodies.bodies) c.rest_after_ticks-rest.new.activity.sets.acting.labels
fell g c = rw c.slot_entries-4.ensures at c.rest_after_ticks-rest.ensures.slept

woken : (g : given.Over) (c : After-rest_after_ticks-rest g) → c.rest_after_ticks-rest.new.scratch.woke.items ≡ newly_awake c.self.inside.handles.slot_entries c.self.inside.activity.bodies.bodies c.commit_collide.new.activity.sets.acting.labels
woken g c = rw (← c.rest_after_ticks-rest.ensures.woke, c.slot_entries-2.ensures, c.in_ok-prepared.ensures.bodies) at c.commit_collide.ensures.woke

pub book_step-requires-clause-roomy : goal.book_step-requires-clause-roomy
book_step-requires-clause-roomy g c = IsRoomy-same _ _ c.in_ok-prepared.ensures.entries c.in_ok-prepared.ensures.settled (IsRoomy-kept (the_view c.self.inside) 0 (kept_of _ _ c.self.invariant.whole))

pub renew_events-requires-clause-slept : goal.renew_events-requires-clause-slept
renew_events-requires-clause-slept g c =
    subst (λ (hs : List Handle). IsStrictlyIncreasing (map slot_of hs)) (sym (fell g (goal.at.renew_events-requires-clause-slept g c).After-rest_after_ticks-rest)) (slept_rise (the_view c.self.inside) c.in_ok-ticks.ticks c.self.inside.activity.sets.acting c.solve-sums.new.bodies.bodies c.solve-sums.new.constraints.joints.joints c.solve-sums.new.constraints.contacts.contacts c.solve-sums.result c.rest_after_ticks-rest.new.activity.sets.acting.labels c.self.invariant.whole (solved g (goal.at.renew_events-requires-clause-slept g c).After-solve-sums))

pub renew_events-requires-clause-woke : goal.renew_events-requires-clause-woke
renew_events-requires-clause-woke g c =
    subst (λ (hs : List Handle). IsStrictlyIncreasing (map slot_of hs)) (sym (woken g (goal.at.renew_events-requires-clause-woke g c).After-rest_after_ticks-rest)) (woke_rise (the_view c.self.inside) c.self.inside.activity.sets.acting c.commit_collide.new.activity.sets.acting c.commit_collide.new.activity.bodies.bodies c.commit_collide.new.constraints.contacts.contacts c.self.invariant.whole (changed g (goal.at.renew_events-requires-clause-woke g c).After-solve-sums))

-- ---- the whole

are_left : (g : given.Over) (c : After-renew_events g) → HasChanged (the_view c.self.inside) c.commit_collide.new.activity.sets.acting c.commit_collide.new.activity.bodies.bodies c.commit_collide.new.constraints.contacts.contacts → HasSolved (the_view c.self.inside) c.in_ok-ticks.ticks c.solve-sums.new.bodies.bodies c.solve-sums.new.constraints.joints.joints c.solve-sums.new.constraints.contacts.contacts c.solve-sums.result
    → AreLeft (the_view c.self.inside) c.in_ok-ticks.ticks c.commit_collide.new.activity.sets.acting c.rest_after_ticks-rest.new.activity.sets.acting c.commit_collide.new.activity.bodies.bodies c.solve-sums.new.bodies.bodies c.rest_after_ticks-rest.new.activity.bodies.bodies c.solve-sums.new.constraints.joints.joints c.commit_collide.new.constraints.contacts.contacts c.solve-sums.new.constraints.contacts.contacts
    c.solve-sums.result (as_vector c.rest_after_ticks-rest.result) c.renew_events.new.events
are_left g c collided ticked =
    record {
      collide = collided;
      ticks = ticked;
      phase = c.rest_after_ticks-rest.ensures.acting;
      bodies = c.rest_after_ticks-rest.ensures.bodies;
      gain_is = c.rest_after_ticks-rest.ensures.gain;
      begin = c.renew_events.ensures.begin ∙ c.in_ok-prepared.ensures.begin;
      end = c.renew_events.ensures.end ∙ c.in_ok-prepared.ensures.end;
      slept = c.renew_events.ensures.slept ∙ (rw c.slot_entries-4.ensures at c.rest_after_ticks-rest.ensures.slept);
      woke = c.renew_events.ensures.woke ∙ (rw (← c.rest_after_ticks-rest.ensures.woke, c.slot_entries-2.ensures, c.in_ok-prepared.ensures.bodies) at c.commit_collide.ensures.woke);
    }

-- the table of bodies, once its marks were taken away
abbrev cleared : Bodies → Bodies
cleared b = record b { marks = replicate (length b.marks) false }

pub invariant_of-self-2 : goal.invariant_of-self-2
invariant_of-self-2 g c =
    let w : World = the_view c.self.inside in
    let calls : c.self.inside.calls < 2 ^ 40 = rw (← c.self.view_is) at c.requires in
    let same : to_z w64 (of_z w64 c.args.ticks) ≡ c.args.ticks = grind (arith, to_z-of_z) in
    let counted : AreCounted c.args.ticks c.in_ok-ticks.ticks = are_counted c.args.ticks _ c.in_ok-ticks.ticks same c.in_ok-ticks.ensures in
    let few : c.in_ok-ticks.ticks ≤ 8 = rw counted.count (few_ticks c.args.ticks counted.between) in
    core_stepped w _ _ _ (cleared c.prepare.new.activity.bodies) c.rest_after_ticks-rest.new.activity.bodies c.self.invariant.whole
    (rw (c.book_step.ensures.entries, c.book_step.ensures.settled, c.in_ok-prepared.ensures.entries, c.in_ok-prepared.ensures.settled)
    (whole w _ _ _ (step_is_left w c.in_ok-ticks.ticks c.self.inside.activity.sets.acting c.commit_collide.new.activity.sets.acting c.rest_after_ticks-rest.new.activity.sets.acting c.commit_collide.new.activity.bodies.bodies c.solve-sums.new.bodies.bodies c.rest_after_ticks-rest.new.activity.bodies.bodies c.solve-sums.new.constraints.joints.joints c.commit_collide.new.constraints.contacts.contacts c.solve-sums.new.constraints.contacts.contacts
    c.solve-sums.result (as_vector c.rest_after_ticks-rest.result) c.renew_events.new.events c.self.invariant.whole calls few (are_left g (goal.at.invariant_of-self-2 g c).After-renew_events (changed g (goal.at.invariant_of-self-2 g c).After-solve-sums) (solved g (goal.at.invariant_of-self-2 g c).After-solve-sums)))))
    c.in_ok-prepared.ensures.bodies refl
    (marked_after (cleared c.prepare.new.activity.bodies) c.solve-sums.new.bodies c.rest_after_ticks-rest.new.activity.bodies (marked_after (cleared c.prepare.new.activity.bodies) c.commit_collide.new.activity.bodies c.solve-sums.new.bodies c.commit_collide.ensures.marked c.solve-sums.ensures.marked) c.rest_after_ticks-rest.ensures.marked)
    (rw (c.commit_collide.ensures.joints, c.in_ok-prepared.ensures.joints) at c.solve-sums.ensures.forbidden) (c.solve-sums.ensures.numbers ∙ ap (λ (es : List ContactEntry). map number_of es) (c.commit_collide.ensures.contacts ∙ c.in_ok-prepared.ensures.pending))
    c.rest_after_ticks-rest.new.activity.joint_sets c.rest_after_ticks-rest.ensures.standing c.solve-sums.new.constraints.contacts.numbered c.rest_after_ticks-rest.new.activity.contact_sets c.rest_after_ticks-rest.ensures.contacts_standing

pub returns : goal.returns
returns g c =
    let w : World = the_view c.self.inside in
    let calls : c.self.inside.calls < 2 ^ 40 = rw (← c.self.view_is) at c.requires in
    let same : to_z w64 (of_z w64 c.args.ticks) ≡ c.args.ticks = grind (arith, to_z-of_z) in
    let counted : AreCounted c.args.ticks c.in_ok-ticks.ticks = are_counted c.args.ticks _ c.in_ok-ticks.ticks same c.in_ok-ticks.ensures in
    let few : c.in_ok-ticks.ticks ≤ 8 = rw counted.count (few_ticks c.args.ticks counted.between) in
    rw (← c.self.view_is)
    (step_answers w c.args.ticks c.in_ok-ticks.ticks _ c.rest_after_ticks-rest.new.activity.sets.acting counted.between counted.count
    (rw (c.book_step.ensures.entries, c.book_step.ensures.settled, c.in_ok-prepared.ensures.entries, c.in_ok-prepared.ensures.settled)
    (step_is_left w c.in_ok-ticks.ticks c.self.inside.activity.sets.acting c.commit_collide.new.activity.sets.acting c.rest_after_ticks-rest.new.activity.sets.acting c.commit_collide.new.activity.bodies.bodies c.solve-sums.new.bodies.bodies c.rest_after_ticks-rest.new.activity.bodies.bodies c.solve-sums.new.constraints.joints.joints c.commit_collide.new.constraints.contacts.contacts c.solve-sums.new.constraints.contacts.contacts
    c.solve-sums.result (as_vector c.rest_after_ticks-rest.result) c.renew_events.new.events c.self.invariant.whole calls few (are_left g (goal.at.returns g c).After-renew_events (changed g (goal.at.returns g c).After-solve-sums) (solved g (goal.at.returns g c).After-solve-sums)))))
