use Rattle.plain_world.specs.Constraints.{constraint_number}
use Rattle.sleep_wake.specs.Changes.{after_changes}
use Rattle.world_rules.proofs.ToldLaws.{told_stays}
use Rattle.world_core.proofs.KeepLaws.{keep_woken, turned_alike}
use Rattle.world_core.proofs.SleeperLaws.{woken_listed}
use Rattle.world_core.proofs.TellingLaws.{awake_beside, after_changes_slept}
use Rattle.solver_sets.specs.Ties.{slots_of}
use Rattle.world_core.proofs.SourceLaws.{first_named}
use Rattle.world_core.proofs.committing.apply_all_changes.Goals as goal

pub fill_newly_awake-requires-clause-all : goal.fill_newly_awake-requires-clause-all
fill_newly_awake-requires-clause-all c =
    rw (c.bodies-2.ensures, c.islands.ensures, c.flush.ensures.acting, c.apply_changes.ensures.acting, c.deref.ensures.value, c.deref-2.ensures.value) (woken_listed c.args.prepared.now.asleep.items c.args.activity.now.bodies.bodies c.args.prepared.now.changes.items c.args.activity.now.sets.acting c.requires.ready.consistent c.requires.ready.told c.requires.can c.requires.sleepers)

pub tell_movers-requires-clause-others : goal.tell_movers-requires-clause-others
tell_movers-requires-clause-others c =
    let old = c.args.activity.now.sets.acting in
    let bodies = c.args.activity.now.bodies.bodies in
    let all = woken_listed c.args.prepared.now.asleep.items bodies c.args.prepared.now.changes.items old c.requires.ready.consistent c.requires.ready.told c.requires.can c.requires.sleepers in
    rw (c.flush.ensures.acting, c.apply_changes.ensures.acting, c.deref.ensures.value, c.deref-3.ensures.value) (awake_beside c.args.prepared.now.asleep.items bodies old.labels (after_changes constraint_number c.args.prepared.now.changes.items old).labels (told_stays old.labels bodies c.requires.ready.bodies c.requires.ready.told) (after_changes_slept c.args.prepared.now.changes.items old) all)

pub tell_movers-requires-clause-together : goal.tell_movers-requires-clause-together
tell_movers-requires-clause-together c =
    let old = c.args.activity.now.sets.acting in
    let bodies = c.args.activity.now.bodies.bodies in
    rw (c.flush.ensures.acting, c.apply_changes.ensures.acting, c.deref.ensures.value)
    (keep_woken old.labels (after_changes constraint_number c.args.prepared.now.changes.items old).labels bodies c.requires.ready.bodies (told_stays old.labels bodies c.requires.ready.bodies c.requires.ready.told) (after_changes_slept c.args.prepared.now.changes.items old) (turned_alike c.args.prepared.now.changes.items old))

pub returns-clause-standing : goal.returns-clause-standing
returns-clause-standing c = rw c.flush-2.ensures.bodies c.tell_movers.ensures.standing

pub returns-clause-contacts_standing : goal.returns-clause-contacts_standing
returns-clause-contacts_standing c = rw c.flush-2.ensures.bodies c.tell_movers.ensures.contacts_standing

pub returns-clause-marked : goal.returns-clause-marked
returns-clause-marked c = rw (c.flush-2.ensures.bodies, c.flush-2.ensures.marks) c.tell_movers.ensures.marked

pub know_told-requires-clause-names : goal.know_told-requires-clause-names
know_told-requires-clause-names c =
    let bodies = c.args.activity.now.bodies.bodies in
    let s = c.args.activity.now.sets.acting in
    rw c.bodies.ensures (first_named bodies (slots_of c.args.joint_entries.now c.args.constraints.now.joints.joints) c.args.constraints.now.contacts.contacts s.labels s.ties (λ slot b at m. c.requires.ready.told slot b at) c.requires.ready.ties)
