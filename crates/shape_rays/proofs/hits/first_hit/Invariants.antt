use Rattle.std.proofs.Common.{◌≡◌, drop}
use Rattle.shape_rays.specs.Hits.{nearer, first_hit}
use Rattle.shape_rays.proofs.hits.first_hit.Given as goal

abbrev pub invariant-loop-transformed : goal.invariant-loop-transformed
invariant-loop-transformed l = record {
  rest : nearer l.best (first_hit l.cast (drop l.transformed-index l.shapes)) ≡ first_hit l.fn.cast l.fn.shapes;
}
