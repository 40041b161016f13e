use Rattle.std.proofs.Common.{◌≡◌, ◌++◌, drop, vec_len, vec_capacity}
use Rattle.part_runs.specs.Hidden.{hidden, hidden_from}
use Rattle.part_runs.specs.Hidden.{part_at}
use Rattle.part_solver.proofs.seeing.see_bodies.Given as goal

abbrev pub invariant-loop-slot : goal.invariant-loop-slot
invariant-loop-slot l = record {
  done : l.out.items ++ hidden_from (part_at l.home) l.number l.slot (drop l.slot l.states) ≡ hidden (part_at l.home) l.number l.states;
  long : vec_len l.out ≡ l.slot;
  room : vec_capacity l.out ≡ vec_capacity l.fn.out;
}
