use Rattle.plain_world.proofs.FatLaws.{renewed_next}
use Rattle.plain_world.proofs.fats.renew_all.Goals as goal

pub loop-place-preserved : goal.loop-place-preserved
loop-place-preserved c =
    renewed_next c.args.pose c.args.defs.now c.args.boxes.now c.loop-place.boxes c.loop-place.any c.renew_box-any.result c.loop-place.place _ _ c.renew_box-any.new.fat c.loop-place-test.true c.requires.boxes c.loop-place.invariant c.renew_box-any.ensures.renewed c.renew_box-any.ensures.same
