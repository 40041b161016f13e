use Rattle.std.proofs.Common.{◌≡◌, ◌≤◌, length, take}
use Rattle.part_runs.specs.Walks.{slots_between}
use Rattle.part_solver.specs.Exchange.{own_walk}
use Rattle.part_solver.proofs.exchange.count_moves.Given as goal

abbrev pub invariant-loop-place : goal.invariant-loop-place
invariant-loop-place l = record {
  count : l.count ≡ length (slots_between l.from l.to (own_walk (take l.place l.moves)));
  few : l.count ≤ l.place;
}
