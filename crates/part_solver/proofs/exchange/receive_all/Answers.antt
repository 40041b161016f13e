use Rattle.std.proofs.Common.{length, arith}
use Rattle.part_solver.specs.Exchange.{own_walk}
use Rattle.part_solver.proofs.PostLaws.{taken_more}
use Rattle.part_solver.proofs.exchange.receive_all.Goals as goal

pub loop-from-preserved : goal.loop-from-preserved
loop-from-preserved g c =
    taken_more (length c.args.ports.now.outs) c.loop-from.from c.args.number (own_walk c.args.moves.now) c.args.states.now.items c.loop-from.states.items c.receive_from-waited.new.states.items c.args.ports.now c.loop-from.ports c.receive_from-waited.new.ports
    (omega (arith, c.loop-from-test.true, c.parts-from-end.ensures)) c.loop-from.invariant c.receive_from-waited.ensures
