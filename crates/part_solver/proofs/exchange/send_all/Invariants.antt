use Rattle.std.proofs.Common.{◌≡◌}
use Rattle.part_runs.specs.Handing.{left_for}
use Rattle.part_solver.specs.Exchange.{AreSentBelow, own_walk}
use Rattle.part_solver.proofs.exchange.send_all.Given as goal

abbrev pub invariant-loop-to : goal.invariant-loop-to
invariant-loop-to g l = record {
  states : l.states.items ≡ left_for l.to l.number (own_walk l.moves) l.fn.states.items;
  sent : AreSentBelow l.to l.number (own_walk l.moves) l.fn.states.items l.fn.ports l.ports;
}
