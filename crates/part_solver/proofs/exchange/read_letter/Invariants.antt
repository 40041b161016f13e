use Rattle.std.proofs.Common.{◌≡◌, ◌≤◌, length, take}
use Rattle.part_runs.specs.Walks.{slots_between}
use Rattle.part_solver.specs.Exchange.{own_walk, put_in}
use Rattle.part_solver.proofs.exchange.read_letter.Given as goal

abbrev pub invariant-loop-place : goal.invariant-loop-place
invariant-loop-place l = record {
  read : l.read ≡ length (slots_between l.from l.to (own_walk (take l.place l.moves)));
  few : l.read ≤ l.place;
  states : l.states.items ≡ put_in (slots_between l.from l.to (own_walk (take l.place l.moves))) l.letter l.fn.states.items;
}
