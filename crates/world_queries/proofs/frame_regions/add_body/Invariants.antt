use Rattle.std.proofs.Common.{◌≡◌, ◌++◌}
use Rattle.shape_rays.specs.Hits.{region}
use Rattle.std.specs.Prelude.{Some}
use Rattle.world_queries.specs.Framed.{framed_at}
use Rattle.world_queries.proofs.FramedLaws.{left_of}
use Rattle.world_queries.proofs.frame_regions.add_body.Given as goal

abbrev pub invariant-loop-index : goal.invariant-loop-index
invariant-loop-index l = record {
  rest : l.found.items ++ region l.bounds (left_of l.body l.index) ≡ l.fn.found.items ++ region l.fn.bounds (framed_at (Some l.fn.body));
}
