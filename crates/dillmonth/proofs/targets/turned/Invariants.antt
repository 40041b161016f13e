use Rattle.std.proofs.Common.{◌≡◌}
use Rattle.fixed_geom.specs.Facings.{IsFacing}
use Rattle.dillmonth.specs.Motions.{turned}
use Rattle.dillmonth.proofs.targets.turned.Given as goal

abbrev pub invariant-loop-tick : goal.invariant-loop-tick
invariant-loop-tick l = record { value : l.now ≡ turned l.tick l.spin l.fn.facing; facing : IsFacing l.now }
