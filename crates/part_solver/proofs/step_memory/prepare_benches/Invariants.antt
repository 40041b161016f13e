use Rattle.std.proofs.Common.{◌≡◌, All, length, take}
use Rattle.part_solver.specs.Benches.{IsRoomy}
use Rattle.part_solver.proofs.step_memory.prepare_benches.Given as goal

abbrev pub invariant-loop-number : goal.invariant-loop-number
invariant-loop-number l = record { many : length l.benches.items ≡ length l.fn.benches.items; rooms : All (IsRoomy l.bodies l.rows l.colours) (take l.number l.benches.items) }
