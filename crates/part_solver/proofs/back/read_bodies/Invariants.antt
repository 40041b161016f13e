use Rattle.std.proofs.Common.{◌≡◌, ◌++◌, List, drop, length, take, vec_len}
use Rattle.momenta.specs.declared.state.BodyState.{BodyState}
use Rattle.part_runs.specs.ReadBack.{AreBodiesBack}
use Rattle.part_runs.specs.Hidden.{part_at}
use Rattle.part_solver.specs.Parts.{run_at}
use Rattle.part_solver.proofs.back.read_bodies.Given as goal

abbrev pub invariant-loop-slot : goal.invariant-loop-slot
invariant-loop-slot l = record {
  done : (now : List BodyState) → AreBodiesBack (part_at l.home) l.fn.states.items (λ k. (run_at l.parts k).states) now → length now ≡ length l.fn.states.items → l.states.items ≡ take l.slot now ++ drop l.slot l.fn.states.items;
  long : vec_len l.states ≡ vec_len l.fn.states;
}
