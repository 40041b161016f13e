use Rattle.std.proofs.Common.{◌≤◌, ◌+◌, [], ◌∷◌, arith}
use Rattle.plain_world.specs.Slots.{body_at}
use Rattle.world_queries.proofs.PosedLaws.{left_at, none_left, some_left, no_ninth, region_more, region_last}
use Rattle.world_queries.proofs.regions.add_at_slot.Goals as goal

pub returns-in_default-clause-found : goal.returns-in_default-clause-found
returns-in_default-clause-found c =
    region_last c.args.bounds.now c.loop-index.found.items _ (left_at c.args.slot c.loop-index.index (body_at c.args.world.now.plain.bodies c.args.slot))
    (none_left c.args.slot c.loop-index.index (body_at c.args.world.now.plain.bodies c.args.slot) c.in_default.ensures.value)
    c.loop-index.invariant.rest

pub loop-index-preserved : goal.loop-index-preserved
loop-index-preserved c = record {
  rest = region_more c.args.bounds.now c.loop-index.found.items c.add_over.new.found.items _
      (left_at c.args.slot c.loop-index.index (body_at c.args.world.now.plain.bodies c.args.slot))
      (c.in-Some.posed ∷ [])
      (left_at c.args.slot (c.loop-index.index + 1) (body_at c.args.world.now.plain.bodies c.args.slot))
      (some_left c.args.slot c.loop-index.index (body_at c.args.world.now.plain.bodies c.args.slot) c.in-Some.posed c.in-Some.ensures.value)
      c.in_ok-add_over.ensures.found
      c.loop-index.invariant.rest;
}

pub returns-clause-found : goal.returns-clause-found
returns-clause-found c =
    let far : 8 ≤ c.loop-index.index = omega (arith, c.loop-index-test.false) in
    region_last c.args.bounds.now c.loop-index.found.items _ (left_at c.args.slot c.loop-index.index (body_at c.args.world.now.plain.bodies c.args.slot))
    (no_ninth c.args.world.now.plain.bodies c.args.slot c.loop-index.index c.requires.formed.bodies far)
    c.loop-index.invariant.rest
