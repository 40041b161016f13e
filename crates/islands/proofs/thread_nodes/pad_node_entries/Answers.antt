use Rattle.std.proofs.Common.{◌≡◌, ◌+◌, ◌-◌, length, arith}
use Rattle.islands.proofs.StandingLemmas.{many_widened}
use Rattle.islands.proofs.thread_nodes.pad_node_entries.Goals as goal

pub returns-clause-widened : goal.returns-clause-widened
returns-clause-widened c =
    let ended : c.loop-number.number ≡ length c.args.node_entries.now.items + (c.args.slots - length c.args.node_entries.now.items) = omega (arith, c.loop-number.invariant.least, c.loop-number.invariant.most, c.loop-number-test.false) in
    many_widened c.args.node_entries.now.items c.loop-number.node_entries.items c.args.slots c.loop-number.number c.loop-number.invariant.many ended
