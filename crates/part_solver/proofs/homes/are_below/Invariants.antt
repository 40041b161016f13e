use Rattle.std.proofs.Common.{All, take}
use Rattle.part_solver.specs.Parts.{IsHomeBelow}
use Rattle.part_solver.proofs.homes.are_below.Given as goal

abbrev pub invariant-loop-slot : goal.invariant-loop-slot
invariant-loop-slot l = record { below : All (IsHomeBelow l.parts) (take l.slot l.home) }
