use Rattle.std.proofs.Common.{ℕ, length, subst}
use Rattle.part_solver.specs.Exchange.{AreTakenBelow, own_walk}
use Rattle.part_solver.proofs.PostLaws.{exchanged_all}
use Rattle.part_solver.proofs.exchange.exchange.Goals as goal

pub returns : goal.returns
returns g c =
    let k = c.args.number in
    let w = own_walk c.args.moves.now in
    let sent = c.send_all-sent.new in
    let now = c.receive_all-received.new in
    exchanged_all (length c.args.ports.now.outs) k w c.args.states.now.items sent.states.items now.states.items c.args.ports.now sent.ports now.ports c.send_all-sent.ensures.states c.send_all-sent.ensures.sent
    (subst (λ (n : ℕ). AreTakenBelow n n k w sent.states.items now.states.items sent.ports now.ports) c.send_all-sent.ensures.sent.count c.receive_all-received.ensures)
