use Rattle.std.proofs.Common.{◌≡◌, vec_len}
use Rattle.part_solver.proofs.step_memory.count_benches.Given as goal

abbrev pub invariant-loop-made : goal.invariant-loop-made
invariant-loop-made l = record { many : vec_len l.benches ≡ l.made }
