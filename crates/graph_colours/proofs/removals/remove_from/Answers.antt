use Rattle.std.proofs.Common.{◌<◌, length, refl, ◌∙◌, arith}
use Rattle.graph_colours.proofs.EditLemmas.{from_start, rising_drop}
use Rattle.graph_colours.proofs.RemovalLemmas.{removals_go}
use Rattle.graph_colours.proofs.removals.remove_from.Goals as goal

pub loop-place-init : goal.loop-place-init
loop-place-init g c =
    let n = g.C.ConstraintId.number in
    let ms = c.args.list.now.items in
    record {
      rest = from_start n c.args.edits.now ms c.args.start c.requires.below;
      gap = record { ordered = omega arith; within = c.requires.start };
      rising = rising_drop n c.args.start ms c.requires.rising;
      capacity = refl;
    }

pub loop-place-preserved : goal.loop-place-preserved
loop-place-preserved g c =
    let es = c.args.edits.now in
    let place = c.loop-place.place in
    let lt : place < length es = omega (arith, c.loop-place-test.true, c.loop-place.auto.place-end) in
    record {
      rest = removals_go g.C.ConstraintId.number es place c.index-edits-place.result c.loop-place.gap c.pass_removal-gap.result c.loop-place.list.items c.pass_removal-gap.new.list.items _ lt c.index-edits-place.is c.requires.in_order c.pass_removal-gap.ensures.items c.loop-place.invariant.rest;
      gap = c.pass_removal-gap.ensures.gap;
      rising = c.pass_removal-gap.ensures.rising;
      capacity = c.pass_removal-gap.ensures.capacity ∙ c.loop-place.invariant.capacity;
    }
