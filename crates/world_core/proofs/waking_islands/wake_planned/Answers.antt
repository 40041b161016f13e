use Rattle.std.proofs.Common.{sym}
use Rattle.world_core_base.proofs.MarkedLaws.{marked_same}
use Rattle.plain_world.specs.Constraints.{constraint_number}
use Rattle.sleep_wake.specs.Sleeping.{islands_woken}
use Rattle.world_core.proofs.KeepLaws.{islands_alike, islands_slept, keep_woken}
use Rattle.world_core.proofs.TellingLaws.{woken_beside}
use Rattle.solver_sets.specs.Ties.{slots_of}
use Rattle.world_core.proofs.SourceLaws.{first_named}
use Rattle.world_rules.proofs.ToldLaws.{told_stays}
use Rattle.world_core.proofs.waking_islands.wake_planned.Goals as goal

pub tell_movers-requires-clause-others : goal.tell_movers-requires-clause-others
tell_movers-requires-clause-others c = rw (c.wake_named.ensures.acting, c.deref.ensures.value, c.deref-2.ensures.value) (woken_beside c.args.waking.now.names.items c.args.waking.now.movers.items c.args.activity.now.sets.acting c.args.activity.now.bodies.bodies c.requires.movers (told_stays c.args.activity.now.sets.acting.labels c.args.activity.now.bodies.bodies c.requires.ready.bodies c.requires.ready.told))

pub tell_movers-requires-clause-together : goal.tell_movers-requires-clause-together
tell_movers-requires-clause-together c =
    let s = c.args.activity.now.sets.acting in
    let names = c.args.waking.now.names.items in
    rw (c.wake_named.ensures.acting, c.deref.ensures.value)
    (keep_woken s.labels (islands_woken constraint_number names s).labels c.args.activity.now.bodies.bodies c.requires.ready.bodies (told_stays s.labels c.args.activity.now.bodies.bodies c.requires.ready.bodies c.requires.ready.told) (islands_slept names s) (islands_alike names s))

pub returns-then-is_empty-clause-told : goal.returns-then-is_empty-clause-told
returns-then-is_empty-clause-told c = sym (told_stays c.args.activity.now.sets.acting.labels c.args.activity.now.bodies.bodies c.requires.ready.bodies c.requires.ready.told)

pub returns-then-is_empty-clause-marked : goal.returns-then-is_empty-clause-marked
returns-then-is_empty-clause-marked c = marked_same c.args.activity.now.bodies.bodies c.args.activity.now.bodies.marks

pub know_told-requires-clause-names : goal.know_told-requires-clause-names
know_told-requires-clause-names c =
    let bodies = c.args.activity.now.bodies.bodies in
    let s = c.args.activity.now.sets.acting in
    rw c.bodies.ensures (first_named bodies (slots_of c.args.joint_entries.now c.args.constraints.now.joints.joints) c.args.constraints.now.contacts.contacts s.labels s.ties (λ slot b at m. c.requires.ready.told slot b at) c.requires.ready.ties)
