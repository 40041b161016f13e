use Rattle.std.proofs.Common.{◌≡◌, drop}
use Rattle.shapes.specs.Choice.{nearest}
use Rattle.shapes.specs.PointsWithin.{IsCandidate}
use Rattle.shapes.proofs.choice.nearest.Given as goal

abbrev pub invariant-loop-c : goal.invariant-loop-c
invariant-loop-c l = record {
  value : nearest l.best (drop l.c-index l.rest) ≡ nearest l.fn.head l.rest;
  candidate : IsCandidate l.best;
}
