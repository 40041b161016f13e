use Rattle.std.proofs.Common.{◌≤◌, ◌+◌, arith}
use Rattle.world_queries.proofs.FramedLaws.{left_of, no_ninth_of, none_left_of, some_left_of}
use Rattle.world_queries.proofs.PosedLaws.{hit_last, hit_one}
use Rattle.world_queries.proofs.frame_rays.hit_on_body.Goals as goal

pub returns-in_default : goal.returns-in_default
returns-in_default c =
    hit_last c.args.cast.now c.loop-index.best _ (left_of c.args.body.now c.loop-index.index)
    (none_left_of c.args.body.now c.loop-index.index c.in_default.ensures.value)
    c.loop-index.invariant.rest

pub loop-index-preserved : goal.loop-index-preserved
loop-index-preserved c = record {
  rest = rw (c.nearer-best.ensures, c.hit_on.ensures) (hit_one c.args.cast.now c.loop-index.best _
      (left_of c.args.body.now c.loop-index.index)
      (left_of c.args.body.now (c.loop-index.index + 1))
      c.in-Some.posed
      (some_left_of c.args.body.now c.loop-index.index c.in-Some.posed c.in-Some.ensures.value)
      c.loop-index.invariant.rest);
}

pub returns : goal.returns
returns c =
    let far : 8 ≤ c.loop-index.index = omega (arith, c.loop-index-test.false) in
    hit_last c.args.cast.now c.loop-index.best _ (left_of c.args.body.now c.loop-index.index)
    (no_ninth_of c.args.body.now c.loop-index.index c.requires.few far)
    c.loop-index.invariant.rest
