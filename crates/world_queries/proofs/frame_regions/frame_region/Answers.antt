use Rattle.std.proofs.Common.{sym, subst}
use Rattle.world_core.specs.Frames.{AreFrameBodies}
use Rattle.world_queries.specs.Framed.{framed_at}
use Rattle.world_queries.proofs.FramedLaws.{formed_in, framed_next}
use Rattle.world_queries.proofs.PosedLaws.{region_more}
use Rattle.world_queries.proofs.frame_regions.frame_region.Goals as goal

pub add_shown-requires : goal.add_shown-requires
add_shown-requires c =
    formed_in c.bodies-shown-items.result.now c.loop-shown.shown-index c.shown-item.result
    (subst AreFrameBodies (sym c.bodies-shown-items.ensures.bodies) c.bodies-shown-items.ensures.formed) c.loop-shown-test.true c.shown-item.is

pub loop-shown-preserved : goal.loop-shown-preserved
loop-shown-preserved c = record {
  rest = region_more c.args.bounds.now c.loop-shown.found.items c.add_shown.new.found.items _ _
      (framed_at c.shown-item.result) _
      (framed_next c.bodies-shown-items.result.now c.loop-shown.shown-index c.shown-item.result c.loop-shown-test.true c.shown-item.is)
      c.in_ok-add_shown.ensures.found
      c.loop-shown.invariant.rest;
}
