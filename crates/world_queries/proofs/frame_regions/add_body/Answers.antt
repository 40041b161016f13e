use Rattle.std.proofs.Common.{◌≤◌, ◌+◌, [], ◌∷◌, arith}
use Rattle.world_queries.proofs.FramedLaws.{left_of, no_ninth_of, none_left_of, some_left_of}
use Rattle.world_queries.proofs.PosedLaws.{region_last, region_more}
use Rattle.world_queries.proofs.frame_regions.add_body.Goals as goal

pub returns-in_default-clause-found : goal.returns-in_default-clause-found
returns-in_default-clause-found c =
    region_last c.args.bounds.now c.loop-index.found.items _ (left_of c.args.body.now c.loop-index.index)
    (none_left_of c.args.body.now c.loop-index.index c.in_default.ensures.value)
    c.loop-index.invariant.rest

pub loop-index-preserved : goal.loop-index-preserved
loop-index-preserved c = record {
  rest = region_more c.args.bounds.now c.loop-index.found.items c.add_over.new.found.items _
      (left_of c.args.body.now c.loop-index.index)
      (c.in-Some.posed ∷ [])
      (left_of c.args.body.now (c.loop-index.index + 1))
      (some_left_of c.args.body.now c.loop-index.index c.in-Some.posed c.in-Some.ensures.value)
      c.in_ok-add_over.ensures.found
      c.loop-index.invariant.rest;
}

pub returns-clause-found : goal.returns-clause-found
returns-clause-found c =
    let far : 8 ≤ c.loop-index.index = omega (arith, c.loop-index-test.false) in
    region_last c.args.bounds.now c.loop-index.found.items _ (left_of c.args.body.now c.loop-index.index)
    (no_ninth_of c.args.body.now c.loop-index.index c.requires.few far)
    c.loop-index.invariant.rest
