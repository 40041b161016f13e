use Rattle.std.proofs.Common.{◌≡◌, length}
use Rattle.part_solver.specs.Parts.{AreMade}
use Rattle.part_solver.proofs.rings.make_rings.Given as goal

abbrev pub invariant-loop-from : goal.invariant-loop-from
invariant-loop-from l = record { many : length l.ports.items ≡ l.parts; made : AreMade l.step l.from 0 l.ports.items }
