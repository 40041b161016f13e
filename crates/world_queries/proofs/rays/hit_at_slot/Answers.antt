use Rattle.std.proofs.Common.{◌≤◌, ◌+◌, arith}
use Rattle.plain_world.specs.Slots.{body_at}
use Rattle.world_queries.specs.Filters.{lets_through}
use Rattle.world_queries.proofs.PosedLaws.{left_at, none_left, some_left, no_ninth}
use Rattle.world_queries.proofs.ThroughLaws.{through_one, through_last}
use Rattle.world_queries.proofs.rays.hit_at_slot.Goals as goal

pub returns-in_default : goal.returns-in_default
returns-in_default c =
    through_last c.args.cast.now (lets_through c.args.filter.now c.args.world.now.plain.bodies) c.loop-index.best _
    (left_at c.args.slot c.loop-index.index (body_at c.args.world.now.plain.bodies c.args.slot))
    (none_left c.args.slot c.loop-index.index (body_at c.args.world.now.plain.bodies c.args.slot) c.in_default.ensures.value)
    c.loop-index.invariant.rest

pub loop-index-preserved : goal.loop-index-preserved
loop-index-preserved c = record {
  rest = rw (c.nearer-best.ensures, c.hit_through.ensures) (through_one c.args.cast.now (lets_through c.args.filter.now c.args.world.now.plain.bodies) c.loop-index.best _
      (left_at c.args.slot c.loop-index.index (body_at c.args.world.now.plain.bodies c.args.slot))
      (left_at c.args.slot (c.loop-index.index + 1) (body_at c.args.world.now.plain.bodies c.args.slot))
      c.in-Some.posed
      (some_left c.args.slot c.loop-index.index (body_at c.args.world.now.plain.bodies c.args.slot) c.in-Some.posed c.in-Some.ensures.value)
      c.loop-index.invariant.rest);
}

pub returns : goal.returns
returns c =
    let far : 8 ≤ c.loop-index.index = omega (arith, c.loop-index-test.false) in
    through_last c.args.cast.now (lets_through c.args.filter.now c.args.world.now.plain.bodies) c.loop-index.best _
    (left_at c.args.slot c.loop-index.index (body_at c.args.world.now.plain.bodies c.args.slot))
    (no_ninth c.args.world.now.plain.bodies c.args.slot c.loop-index.index c.slots.ensures.sound.formed.bodies far)
    c.loop-index.invariant.rest
