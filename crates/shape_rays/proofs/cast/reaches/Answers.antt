use Rattle.shape_rays.proofs.PartLemmas.{corners_near}
use Rattle.shape_rays.proofs.cast.reaches.Goals as goal

pub minus-requires-clause-first : goal.minus-requires-clause-first
minus-requires-clause-first c =
    (corners_near c.args.from c.args.along c.args.bounds.now c.args.around.now c.common-part.result c.requires.from c.requires.along c.requires.around (c.overlaps.ensures.overlaps.0 c.if-not-overlaps.false) c.common-part.ensures).low.within

pub minus-requires-2-clause-first : goal.minus-requires-2-clause-first
minus-requires-2-clause-first c =
    (corners_near c.args.from c.args.along c.args.bounds.now c.args.around.now c.common-part.result c.requires.from c.requires.along c.requires.around (c.overlaps.ensures.overlaps.0 c.if-not-overlaps.false) c.common-part.ensures).high.within

pub is_crossed-requires-clause-low : goal.is_crossed-requires-clause-low
is_crossed-requires-clause-low c =
    rw c.minus.ensures.value (corners_near c.args.from c.args.along c.args.bounds.now c.args.around.now c.common-part.result c.requires.from c.requires.along c.requires.around (c.overlaps.ensures.overlaps.0 c.if-not-overlaps.false) c.common-part.ensures).low.near

pub is_crossed-requires-clause-high : goal.is_crossed-requires-clause-high
is_crossed-requires-clause-high c =
    rw c.minus-2.ensures.value (corners_near c.args.from c.args.along c.args.bounds.now c.args.around.now c.common-part.result c.requires.from c.requires.along c.requires.around (c.overlaps.ensures.overlaps.0 c.if-not-overlaps.false) c.common-part.ensures).high.near
