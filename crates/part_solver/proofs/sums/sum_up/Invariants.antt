use Rattle.std.proofs.Common.{◌≡◌, ◌<◌, ◌*◌, ◌^◌, ℕ}
use Rattle.colour_solver.specs.States.{as_vector}
use Rattle.colour_solver.specs.Ticks.{AreSums}
use Rattle.part_runs.specs.Hidden.{sum_below}
use Rattle.part_runs.specs.Runs.{IsInRange}
use Rattle.part_solver.specs.Parts.{run_at}
use Rattle.part_solver.proofs.sums.sum_up.Given as goal

abbrev pub invariant-loop-number : goal.invariant-loop-number
invariant-loop-number l = record {
  gravity : as_vector l.sums.gravity ≡ sum_below l.number (λ k. (run_at l.parts k).gravity);
  immovable : as_vector l.sums.immovable ≡ sum_below l.number (λ k. (run_at l.parts k).immovable);
  clamp : as_vector l.sums.clamp ≡ sum_below l.number (λ k. (run_at l.parts k).clamp);
  ranges : (k : ℕ) → k < l.number → IsInRange (run_at l.parts k);
  small : AreSums (l.number * 2 ^ 90) l.sums;
}
