use Rattle.std.proofs.Common.{sym, ◌∙◌}
use Rattle.colour_solver.proofs.VectorLaws.{plus_zero}
use Rattle.plain_world.specs.Momentum.{momentum}
use Rattle.world_core.proofs.QuietSteps.{slept_stays}
use Rattle.plain_world.specs.Constraints.{constraint_number}
use Rattle.sleep_wake.specs.Sleeping.{slept_at}
use Rattle.world_core.proofs.KeepLaws.{keep_rested}
use Rattle.world_core.proofs.TellingLaws.{slept_beside, slept_on}
use Rattle.world_rules.proofs.ToldLaws.{told_stays}
use Rattle.world_core_base.proofs.MarkedLaws.{marked_same}
use Rattle.world_core.proofs.waking_islands.put_to_sleep.Goals as goal

pub returns-then-not-is_awake-clause-acting : goal.returns-then-not-is_awake-clause-acting
returns-then-not-is_awake-clause-acting c = sym (slept_stays c.args.slot c.args.activity.now.sets.acting (sym c.is_awake.ensures ∙ c.if-not-is_awake.true))

pub returns-then-not-is_awake-clause-told : goal.returns-then-not-is_awake-clause-told
returns-then-not-is_awake-clause-told c = sym (told_stays c.args.activity.now.sets.acting.labels c.args.activity.now.bodies.bodies c.requires.ready.bodies c.requires.ready.told)

pub returns-then-not-is_awake-clause-marked : goal.returns-then-not-is_awake-clause-marked
returns-then-not-is_awake-clause-marked c = marked_same c.args.activity.now.bodies.bodies c.args.activity.now.bodies.marks

pub tell_movers-requires-clause-others : goal.tell_movers-requires-clause-others
tell_movers-requires-clause-others c = rw c.sleep.ensures.acting (slept_beside c.args.slot c.args.movers.now c.args.activity.now.sets.acting c.args.activity.now.bodies.bodies c.requires.ready.consistent (c.requires.movers (sym c.is_awake.ensures ∙ c.if-not-is_awake.false)) (told_stays c.args.activity.now.sets.acting.labels c.args.activity.now.bodies.bodies c.requires.ready.bodies c.requires.ready.told))

pub returns-then-not-is_awake-clause-momentum : goal.returns-then-not-is_awake-clause-momentum
returns-then-not-is_awake-clause-momentum c = sym (plus_zero (momentum c.args.activity.now.bodies.bodies))

pub tell_movers-requires-clause-together : goal.tell_movers-requires-clause-together
tell_movers-requires-clause-together c =
    let s = c.args.activity.now.sets.acting in
    rw c.sleep.ensures.acting (keep_rested s.labels (slept_at constraint_number c.args.slot s).labels c.args.activity.now.bodies.bodies c.requires.ready.bodies (told_stays s.labels c.args.activity.now.bodies.bodies c.requires.ready.bodies c.requires.ready.told) (slept_on c.args.slot s c.requires.ready.consistent))
