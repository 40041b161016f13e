use Rattle.std.proofs.Common.{◌≡◌, ◌++◌, drop}
use Rattle.shape_rays.specs.Hits.{region}
use Rattle.world_queries.specs.ByBoxes.{region_at}
use Rattle.world_queries.specs.Posed.{posed_shapes}
use Rattle.world_queries.proofs.regions.region.Given as goal

abbrev pub invariant-loop-slot : goal.invariant-loop-slot
invariant-loop-slot l = record {
  rest : l.found.items ++ region_at l.bounds l.world.plain.bodies (drop l.slot-index l.slot-items) ≡ region l.fn.bounds (posed_shapes l.fn.world.plain.bodies);
}
