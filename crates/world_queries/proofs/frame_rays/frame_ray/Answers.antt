use Rattle.std.proofs.Common.{sym, subst}
use Rattle.world_core.specs.Frames.{AreFrameBodies}
use Rattle.world_queries.specs.Framed.{framed_at}
use Rattle.world_queries.proofs.FramedLaws.{formed_in, framed_next, hit_parts}
use Rattle.world_queries.proofs.frame_rays.frame_ray.Goals as goal

pub hit_in_slot-requires : goal.hit_in_slot-requires
hit_in_slot-requires c =
    formed_in c.bodies-shown-items.result.now c.loop-shown.shown-index c.shown-item.result
    (subst AreFrameBodies (sym c.bodies-shown-items.ensures.bodies) c.bodies-shown-items.ensures.formed) c.loop-shown-test.true c.shown-item.is

pub loop-shown-preserved : goal.loop-shown-preserved
loop-shown-preserved c = record {
  rest = rw (c.nearer-best.ensures, c.hit_in_slot.ensures) (hit_parts c.new-cast.result c.loop-shown.best _ _
      (framed_at c.shown-item.result) _
      (framed_next c.bodies-shown-items.result.now c.loop-shown.shown-index c.shown-item.result c.loop-shown-test.true c.shown-item.is)
      c.loop-shown.invariant.rest);
}
