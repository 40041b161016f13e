use Rattle.world_core_base.proofs.CoverLaws.{hull_next}
use Rattle.world_core_base.proofs.covers.hull_of.Goals as goal

pub loop-place-preserved : goal.loop-place-preserved
loop-place-preserved c = hull_next c.loop-place.hull c.joined-hull.result c.args.fats.now c.loop-place.place _ c.loop-place-test.true c.loop-place.invariant c.joined-hull.ensures.first c.joined-hull.ensures.second
