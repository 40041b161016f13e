use Rattle.islands.proofs.StandingLemmas.{is_put}
use Rattle.islands.proofs.thread_nodes.put.Goals as goal

pub returns-clause-put : goal.returns-clause-put
returns-clause-put c = is_put c.args.node_entries.now.items c.args.slot c.args.node c.put_node.new.node_entries.items c.put_slot.new.node_entries.items c.requires.slot c.requires.node c.put_node.ensures.node_entries c.put_slot.ensures.node_entries
