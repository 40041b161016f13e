use Rattle.std.proofs.Common.{◌≡◌, ◌++◌, drop}
use Rattle.shape_rays.specs.Hits.{region}
use Rattle.world_queries.specs.Framed.{framed_shapes}
use Rattle.world_queries.proofs.frame_regions.frame_region.Given as goal

abbrev pub invariant-loop-shown : goal.invariant-loop-shown
invariant-loop-shown l = record {
  rest : l.found.items ++ region l.bounds (framed_shapes (drop l.shown-index l.shown-items)) ≡ region l.fn.bounds (framed_shapes l.fn.frame.bodies);
}
