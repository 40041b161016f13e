use Rattle.std.proofs.Common.{◌≡◌, drop}
use Rattle.shapes.specs.Rays.{beam_of}
use Rattle.shape_rays.specs.Hits.{first_hit, nearer}
use Rattle.world_queries.specs.Framed.{framed_shapes}
use Rattle.world_queries.proofs.frame_rays.frame_ray.Given as goal

abbrev pub invariant-loop-shown : goal.invariant-loop-shown
invariant-loop-shown l = record {
  rest : nearer l.best (first_hit l.cast (framed_shapes (drop l.shown-index l.shown-items))) ≡ first_hit (beam_of l.fn.from l.fn.along) (framed_shapes l.fn.frame.bodies);
}
