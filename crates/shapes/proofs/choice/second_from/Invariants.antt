use Rattle.std.proofs.Common.{◌≡◌, drop, IfSome}
use Rattle.shapes.specs.Choice.{second_from}
use Rattle.shapes.specs.PointsWithin.{IsSpot}
use Rattle.shapes.proofs.choice.second_from.Given as goal

abbrev pub invariant-loop-c : goal.invariant-loop-c
invariant-loop-c l = record {
  value : second_from l.pair l.first l.best (drop l.c-index l.rest) ≡ second_from l.pair l.first l.fn.start l.rest;
  spot : IfSome l.best IsSpot;
}
