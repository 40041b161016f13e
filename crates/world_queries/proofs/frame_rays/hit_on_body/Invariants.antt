use Rattle.std.proofs.Common.{◌≡◌}
use Rattle.shape_rays.specs.Hits.{first_hit, nearer}
use Rattle.std.specs.Prelude.{Some}
use Rattle.world_queries.specs.Framed.{framed_at}
use Rattle.world_queries.proofs.FramedLaws.{left_of}
use Rattle.world_queries.proofs.frame_rays.hit_on_body.Given as goal

abbrev pub invariant-loop-index : goal.invariant-loop-index
invariant-loop-index l = record {
  rest : nearer l.best (first_hit l.cast (left_of l.body l.index)) ≡ first_hit l.fn.cast (framed_at (Some l.fn.body));
}
