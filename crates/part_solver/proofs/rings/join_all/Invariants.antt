use Rattle.std.proofs.Common.{◌≡◌, length}
use Rattle.part_solver.specs.Parts.{AreMade}
use Rattle.part_solver.proofs.rings.join_all.Given as goal

abbrev pub invariant-loop-to : goal.invariant-loop-to
invariant-loop-to l = record { many : length l.ports ≡ length l.fn.ports; made : AreMade l.step l.from l.to l.ports }
