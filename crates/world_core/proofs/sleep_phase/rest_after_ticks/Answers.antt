use Rattle.std.proofs.Common.{◌≡◌, ◌≤◌, ◌∙◌, ℕ, List, Option, length, ap, arith, subst, sym}
use Rattle.body_handles.specs.declared.handle.Handle.{Handle}
use Rattle.colour_solver.specs.States.{as_vector}
use Rattle.colour_solver.proofs.VectorLaws.{minus_same}
use Rattle.plain_world.specs.declared.body.Body.{Body}
use Rattle.plain_world.specs.Momentum.{momentum}
use Rattle.plain_world.specs.Sleep.{timed_bodies}
use Rattle.solver_sets.specs.Beside.{timers_of}
use Rattle.solver_sets.specs.Tied.{AreTied}
use Rattle.world_rules.specs.Apply.{rested_acting}
use Rattle.world_rules.specs.Sound.{AreTold}
use Rattle.world_rules.proofs.TickedLaws.{timed_are_bodies, timed_told}
use Rattle.contacts.specs.declared.number_book.NumberedContact.{NumberedContact}
use Rattle.solver_sets.specs.Ties.{slots_of}
use Rattle.world_core.proofs.WorldSourceLaws.{timed_ties}
use Rattle.world_core.proofs.Whole.{gained_is}
use Rattle.world_core.proofs.KnownLaws.{marked_after}
use Rattle.world_core.proofs.QuietSteps.{RestsQuietly, rests_quietly, tied_timed}
use Rattle.world_core.proofs.RestLaws.{awake_few, awake_rises, awake_slots, newly_asleep_awake, phase_by_awake, tied_rested}
use Rattle.world_core.proofs.TellingLaws.{fewer_asleep, phase_on, rested_beside}
use Rattle.world_core_base.proofs.ContactAsleepLaws.{contacts_alike}
use Rattle.world_core_base.proofs.JointAsleepLaws.{joints_alike}
use Rattle.world_core_base.proofs.AsleepLaws.{alike_timed}
use Rattle.sleep_wake.specs.SleepPhase.{sleep_phase}
use Rattle.plain_world.specs.Constraints.{constraint_number}
use Rattle.plain_world.specs.declared.joint.BodyJoint.{BodyJoint}
use Rattle.world_core_base.specs.Sleeping.{Sleeping}
use Rattle.plain_world.specs.Bodies.{AreBodies}
use Rattle.world_core_base.specs.Asleep.{AreContactSets, AreJointSets, SleepAlike}
use Rattle.world_core_base.proofs.TimeLaws.{length-timed}
use Rattle.world_rules.proofs.ToldLaws.{told_stays}
use Rattle.world_core.proofs.KeepLaws.{keep_rested}
use Rattle.world_core.proofs.sleep_phase.rest_after_ticks.Goals as goal
use Rattle.world_core.proofs.sleep_phase.rest_after_ticks.Goals.{After-sleep_phase}

pub are_kept_up-requires-clause-tied : goal.are_kept_up-requires-clause-tied
are_kept_up-requires-clause-tied c = rw c.time.ensures.bodies (tied_timed c.args.ticks c.args.activity.now.bodies.bodies c.args.activity.now.sets.acting.labels c.requires.tied)

pub are_kept_up-requires-clause-told : goal.are_kept_up-requires-clause-told
are_kept_up-requires-clause-told c = rw c.time.ensures.bodies (timed_told c.args.ticks c.args.activity.now.bodies.bodies c.args.activity.now.sets.acting.labels c.requires.ready.told)

is_quiet : (c : goal.After-clear) → RestsQuietly c.args.ticks c.args.activity.now.bodies.bodies c.args.slot_entries.now c.args.constraints.now.joints.joints c.args.constraints.now.contacts.contacts c.args.activity.now.sets.acting
is_quiet c =
    rests_quietly c.args.ticks c.args.activity.now.bodies.bodies c.args.slot_entries.now c.args.constraints.now.joints.joints c.args.constraints.now.contacts.contacts c.args.activity.now.sets.acting c.requires.ready.bodies c.requires.tied c.requires.ready.told
    (rw c.time.ensures.bodies at (c.are_kept_up.ensures c.if-are_kept_up.true))

pub returns-then-are_kept_up-clause-acting : goal.returns-then-are_kept_up-clause-acting
returns-then-are_kept_up-clause-acting c = (is_quiet c).acting

pub returns-then-are_kept_up-clause-bodies : goal.returns-then-are_kept_up-clause-bodies
returns-then-are_kept_up-clause-bodies c = rw c.time.ensures.bodies (is_quiet c).bodies

pub returns-then-are_kept_up-clause-slept : goal.returns-then-are_kept_up-clause-slept
returns-then-are_kept_up-clause-slept c = rw c.clear.ensures.items (is_quiet c).slept

-- ---- a phase that looks at the awake movers alone

pub sleep_phase-requires : goal.sleep_phase-requires
sleep_phase-requires c = record {
  awake =
      awake_slots c.args.activity.now.sets.acting.labels (timed_bodies c.args.ticks c.args.activity.now.bodies.bodies) c.awake-2.result.now (rw c.time.ensures.bodies at c.awake-2.ensures) (tied_timed c.args.ticks c.args.activity.now.bodies.bodies c.args.activity.now.sets.acting.labels c.requires.tied)
      (timed_told c.args.ticks c.args.activity.now.bodies.bodies c.args.activity.now.sets.acting.labels c.requires.ready.told);
  source = rw (c.bodies-2.ensures, c.time.ensures.bodies) (timed_ties c.args.ticks c.args.activity.now.bodies.bodies (slots_of c.args.joint_entries.now c.args.constraints.now.joints.joints) c.args.constraints.now.contacts.contacts ∙ c.requires.ready.ties);
}

-- what the phase makes of the islands
phased : (c : After-sleep_phase) → c.sleep_phase.new.self.acting ≡ rested_acting (timed_bodies c.args.ticks c.args.activity.now.bodies.bodies) c.args.constraints.now.joints.joints c.args.constraints.now.contacts.contacts c.args.activity.now.sets.acting
phased c =
    phase_by_awake (timed_bodies c.args.ticks c.args.activity.now.bodies.bodies) c.args.constraints.now.joints.joints c.args.constraints.now.contacts.contacts c.args.activity.now.sets.acting c.sleep_phase.new.self.acting c.awake.result.now c.fill_awake_timers.new.timers.items (rw c.time.ensures.bodies at c.awake.ensures)
    (tied_timed c.args.ticks c.args.activity.now.bodies.bodies c.args.activity.now.sets.acting.labels c.requires.tied) (timed_told c.args.ticks c.args.activity.now.bodies.bodies c.args.activity.now.sets.acting.labels c.requires.ready.told)
    (rw (c.bodies.ensures, c.time.ensures.bodies) at c.fill_awake_timers.ensures.size) c.requires.tells (rw (c.bodies.ensures, c.joints.ensures, c.colours.ensures.lists, c.time.ensures.bodies) at c.fill_awake_timers.ensures.same) (rw c.deref.ensures.value at c.sleep_phase.ensures.acting)

pub fill_newly_asleep-requires-clause-rising : goal.fill_newly_asleep-requires-clause-rising
fill_newly_asleep-requires-clause-rising c = awake_rises c.time.new.self.bodies c.awake-3.result.now c.awake-3.ensures

pub fill_newly_asleep-requires-clause-room : goal.fill_newly_asleep-requires-clause-room
fill_newly_asleep-requires-clause-room c =
    awake_few c.time.new.self.bodies c.awake-3.result.now _ c.awake-3.ensures (let long = c.time.ensures.slots.slots in let enough = c.requires.slept in omega (arith, long, enough))

pub fill_newly_asleep-requires-clause-all : goal.fill_newly_asleep-requires-clause-all
fill_newly_asleep-requires-clause-all c =
    let timed = timed_bodies c.args.ticks c.args.activity.now.bodies.bodies in
    let tied : AreTied timed c.args.activity.now.sets.acting.labels = tied_timed c.args.ticks c.args.activity.now.bodies.bodies c.args.activity.now.sets.acting.labels c.requires.tied in
    let told : AreTold timed c.args.activity.now.sets.acting.labels = timed_told c.args.ticks c.args.activity.now.bodies.bodies c.args.activity.now.sets.acting.labels c.requires.ready.told in
    rw (c.bodies-3.ensures, c.islands.ensures, c.time.ensures.bodies)
    (newly_asleep_awake timed c.sleep_phase.new.self.acting.labels c.awake-3.result.now (rw c.time.ensures.bodies at c.awake-3.ensures) (tied_rested (timers_of timed c.args.constraints.now.joints.joints c.args.constraints.now.contacts.contacts) timed c.args.activity.now.sets.acting c.sleep_phase.new.self.acting c.requires.ready.consistent tied (phased (goal.at.fill_newly_asleep-requires-clause-all c).After-sleep_phase)))

pub returns-clause-acting : goal.returns-clause-acting
returns-clause-acting c = rw c.tell_movers.ensures.sets (phased (goal.at.returns-clause-acting c).After-sleep_phase)

pub returns-clause-marked : goal.returns-clause-marked
returns-clause-marked c = marked_after c.args.activity.now.bodies c.time.new.self c.tell_movers.new.activity.bodies c.time.ensures.marked c.tell_movers.ensures.marked

-- ---- those who fall asleep are told

pub fill_slots-requires : goal.fill_slots-requires
fill_slots-requires c =
    let few = fewer_asleep c.args.slot_entries.now c.bodies-3.result.now c.islands.result.now.labels in
    let long = ap (λ (hs : List Handle). length hs) (c.deref-2.ensures.value ∙ c.fill_newly_asleep.ensures.handles) in
    let room = c.requires.slots in
    omega (arith, few, long, room)

pub tell_movers-requires-clause-others : goal.tell_movers-requires-clause-others
tell_movers-requires-clause-others c =
    let timed = timed_bodies c.args.ticks c.args.activity.now.bodies.bodies in
    let told : AreTold timed c.args.activity.now.sets.acting.labels = timed_told c.args.ticks c.args.activity.now.bodies.bodies c.args.activity.now.sets.acting.labels c.requires.ready.told in
    let same : length c.time.new.self.bodies ≡ length timed = ap (λ (bs : List (Option Body)). length bs) c.time.ensures.bodies in
    let kept : length c.time.new.self.bodies ≡ length c.args.activity.now.bodies.bodies = c.time.ensures.slots.slots in
    let room = c.requires.slot_entries in
    let long : length timed ≤ length c.args.slot_entries.now = omega (arith, same, kept, room) in
    rw (c.deref-3.ensures.value, c.fill_slots.ensures.slots, c.deref-2.ensures.value, c.fill_newly_asleep.ensures.handles, c.bodies-3.ensures, c.islands.ensures, c.time.ensures.bodies)
    (rested_beside c.args.slot_entries.now timed c.args.activity.now.sets.acting c.sleep_phase.new.self.acting (timers_of timed c.args.constraints.now.joints.joints c.args.constraints.now.contacts.contacts) long (timed_are_bodies c.args.ticks c.args.activity.now.bodies.bodies c.requires.ready.bodies) told c.requires.ready.consistent (phased (goal.at.tell_movers-requires-clause-others c).After-sleep_phase))

pub tell_movers-requires-clause-together : goal.tell_movers-requires-clause-together
tell_movers-requires-clause-together c =
    let timed = timed_bodies c.args.ticks c.args.activity.now.bodies.bodies in
    let timers = timers_of timed c.args.constraints.now.joints.joints c.args.constraints.now.contacts.contacts in
    let s = c.args.activity.now.sets.acting in
    let told : AreTold timed s.labels = timed_told c.args.ticks c.args.activity.now.bodies.bodies s.labels c.requires.ready.told in
    let are : AreBodies timed = timed_are_bodies c.args.ticks c.args.activity.now.bodies.bodies c.requires.ready.bodies in
    rw (c.time.ensures.bodies, phased (goal.at.tell_movers-requires-clause-together c).After-sleep_phase) (keep_rested s.labels (sleep_phase constraint_number timers s).labels timed are (told_stays s.labels timed are told) (phase_on timers s c.requires.ready.consistent))

standing_timed : (ticks : ℕ) (bodies now : List (Option Body)) (joints : List (Option BodyJoint)) (sets : Sleeping) → now ≡ timed_bodies ticks bodies → AreJointSets bodies joints sets → AreJointSets now joints sets
standing_timed ticks bodies now joints sets e are = joints_alike bodies now joints sets (let long = ap (λ (os : List (Option Body)). length os) e ∙ length-timed ticks bodies in omega (arith, long)) (subst (SleepAlike bodies) (sym e) (alike_timed ticks bodies)) are

contacts_timed : (ticks : ℕ) (bodies now : List (Option Body)) (numbered : List (Option NumberedContact)) (sets : Sleeping) → now ≡ timed_bodies ticks bodies → AreContactSets bodies numbered sets → AreContactSets now numbered sets
contacts_timed ticks bodies now numbered sets e are = contacts_alike bodies now numbered sets (let long = ap (λ (os : List (Option Body)). length os) e ∙ length-timed ticks bodies in omega (arith, long)) (subst (SleepAlike bodies) (sym e) (alike_timed ticks bodies)) are

-- the source reads the bodies as they are timed
pub invariant_of-sleep_phase : goal.invariant_of-sleep_phase
invariant_of-sleep_phase c = record {
  can = c.requires.ready.can_tell;
  joints_standing = standing_timed c.args.ticks c.args.activity.now.bodies.bodies c.bodies-2.result.now c.args.constraints.now.joints.joints c.args.activity.now.joint_sets (c.bodies-2.ensures ∙ c.time.ensures.bodies) c.requires.ready.standing;
  contacts_standing = contacts_timed c.args.ticks c.args.activity.now.bodies.bodies c.bodies-2.result.now c.args.constraints.now.contacts.numbered c.args.activity.now.contact_sets (c.bodies-2.ensures ∙ c.time.ensures.bodies) c.requires.ready.contacts_standing;
}

pub tell_movers-requires-clause-contacts_standing : goal.tell_movers-requires-clause-contacts_standing
tell_movers-requires-clause-contacts_standing c = contacts_timed c.args.ticks c.args.activity.now.bodies.bodies c.time.new.self.bodies c.args.constraints.now.contacts.numbered c.args.activity.now.contact_sets c.time.ensures.bodies c.requires.ready.contacts_standing

pub returns-then-are_kept_up-clause-contacts_standing : goal.returns-then-are_kept_up-clause-contacts_standing
returns-then-are_kept_up-clause-contacts_standing c = contacts_timed c.args.ticks c.args.activity.now.bodies.bodies c.time.new.self.bodies c.args.constraints.now.contacts.numbered c.args.activity.now.contact_sets c.time.ensures.bodies c.requires.ready.contacts_standing

pub tell_movers-requires-clause-standing : goal.tell_movers-requires-clause-standing
tell_movers-requires-clause-standing c = standing_timed c.args.ticks c.args.activity.now.bodies.bodies c.time.new.self.bodies c.args.constraints.now.joints.joints c.args.activity.now.joint_sets c.time.ensures.bodies c.requires.ready.standing

pub returns-then-are_kept_up-clause-standing : goal.returns-then-are_kept_up-clause-standing
returns-then-are_kept_up-clause-standing c = standing_timed c.args.ticks c.args.activity.now.bodies.bodies c.time.new.self.bodies c.args.constraints.now.joints.joints c.args.activity.now.joint_sets c.time.ensures.bodies c.requires.ready.standing

pub returns-then-are_kept_up-clause-gain : goal.returns-then-are_kept_up-clause-gain
returns-then-are_kept_up-clause-gain c = rw c.time.ensures.bodies (sym (minus_same (momentum (timed_bodies c.args.ticks c.args.activity.now.bodies.bodies))))

pub returns-clause-gain : goal.returns-clause-gain
returns-clause-gain c = gained_is (momentum c.tell_movers.new.activity.bodies.bodies) (momentum (timed_bodies c.args.ticks c.args.activity.now.bodies.bodies)) (as_vector c.tell_movers.result) (rw c.time.ensures.bodies at c.tell_movers.ensures.momentum)
