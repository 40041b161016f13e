use Rattle.part_solver.specs.Exchange.{own_walk}
use Rattle.part_solver.proofs.PostLaws.{left_more, sent_more}
use Rattle.part_solver.proofs.exchange.send_all.Goals as goal

pub loop-to-preserved : goal.loop-to-preserved
loop-to-preserved g c =
    let k = c.args.number in
    let w = own_walk c.args.moves.now in
    let states = c.args.states.now.items in
    let i = c.loop-to.to in
    let known = c.loop-to.invariant in
    let made = c.send_to-waited.ensures in
    record {
      states = left_more i k w states c.loop-to.states.items c.send_to-waited.new.states.items known.states made.states;
      sent = sent_more i k w states c.loop-to.states.items c.args.ports.now c.loop-to.ports c.send_to-waited.new.ports known.sent known.states made.sent;
    }
