use Rattle.loaded_text.proofs.ShapeLaws.{no_shape_yet, shape_more, shapes_end}
use Rattle.loaded_text.proofs.saved_shapes.add_shapes.Goals as goal

pub loop-place-init : goal.loop-place-init
loop-place-init c = no_shape_yet c.args.loaded.now _

pub loop-place-preserved : goal.loop-place-preserved
loop-place-preserved c = shape_more c.loop-place.place c.args.loaded.now _ _ c.in_ok-shape.shape _ _ _ _ c.loop-place.invariant (c.in_ok-more.ensures.more c.if-not-more.false) c.in_ok-shape.ensures c.in_ok-keep_shape.ensures.shapes c.in_ok-keep_shape.ensures.fats

pub returns-then-not-more : goal.returns-then-not-more
returns-then-not-more c = shapes_end c.args.lead.now c.loop-place.place c.args.loaded.now c.loop-place.loaded _ _ _ _ _ c.in_ok-expect.ensures.taken c.in_ok-expect-2.ensures.taken c.loop-place.invariant (c.in_ok-more.ensures.end c.if-not-more.true)
