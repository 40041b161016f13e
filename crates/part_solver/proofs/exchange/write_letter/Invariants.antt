use Rattle.std.proofs.Common.{◌≡◌, take, vec_capacity}
use Rattle.part_runs.specs.Walks.{slots_between}
use Rattle.part_runs.specs.Handing.{left_by, let_go}
use Rattle.part_solver.specs.Exchange.{own_walk}
use Rattle.part_solver.proofs.exchange.write_letter.Given as goal

abbrev pub invariant-loop-place : goal.invariant-loop-place
invariant-loop-place l = record {
  states : l.states.items ≡ left_by (slots_between l.from l.to (own_walk (take l.place l.moves))) l.fn.states.items;
  letter : l.letter.items ≡ let_go (slots_between l.from l.to (own_walk (take l.place l.moves))) l.fn.states.items;
  room : vec_capacity l.letter ≡ vec_capacity l.fn.letter;
}
