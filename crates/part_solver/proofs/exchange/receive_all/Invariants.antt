use Rattle.std.proofs.Common.{length}
use Rattle.part_solver.specs.Exchange.{AreTakenBelow, own_walk}
use Rattle.part_solver.proofs.exchange.receive_all.Given as goal

abbrev pub invariant-loop-from : goal.invariant-loop-from
invariant-loop-from g l = AreTakenBelow (length l.fn.ports.outs) l.from l.number (own_walk l.moves) l.fn.states.items l.states.items l.fn.ports l.ports
