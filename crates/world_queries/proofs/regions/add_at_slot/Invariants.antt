use Rattle.std.proofs.Common.{◌≡◌, ◌++◌}
use Rattle.plain_world.specs.Slots.{body_at}
use Rattle.shape_rays.specs.Hits.{region}
use Rattle.world_queries.specs.Posed.{shapes_at}
use Rattle.world_queries.proofs.PosedLaws.{left_at}
use Rattle.world_queries.proofs.regions.add_at_slot.Given as goal

abbrev pub invariant-loop-index : goal.invariant-loop-index
invariant-loop-index l = record {
  rest : l.found.items ++ region l.bounds (left_at l.slot l.index (body_at l.world.plain.bodies l.slot)) ≡ l.fn.found.items ++ region l.fn.bounds (shapes_at l.fn.slot (body_at l.fn.world.plain.bodies l.fn.slot));
}
