use Rattle.world_queries.proofs.ByBoxesLaws.{region_by_boxes, region_next, region_done}
use Rattle.world_queries.proofs.regions.region.Goals as goal

pub loop-slot-init : goal.loop-slot-init
loop-slot-init c = record {
  rest = rw (c.in_ok-found.ensures.items, c.deref-slot-items.ensures.value, c.in_ok-slots.ensures.keys) (region_by_boxes c.args.bounds.now c.args.world.now.plain.bodies c.tree.result.now c.tree.ensures.sound.formed.bodies c.tree.ensures.covered);
}

pub loop-slot-preserved : goal.loop-slot-preserved
loop-slot-preserved c = record {
  rest = region_next c.args.bounds.now c.args.world.now.plain.bodies c.deref-slot-items.result.now c.loop-slot.slot-index c.loop-slot.found.items c.add_at_slot.new.found.items _ c.loop-slot-test.true c.in_ok-add_at_slot.ensures.found c.loop-slot.invariant.rest;
}

pub returns-clause-shapes : goal.returns-clause-shapes
returns-clause-shapes c = region_done c.args.bounds.now c.args.world.now.plain.bodies c.deref-slot-items.result.now c.loop-slot.slot-index c.loop-slot.found.items _ c.loop-slot-test.false c.loop-slot.invariant.rest
