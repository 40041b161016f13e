use Rattle.islands.proofs.WideLemmas.{wide_labels, wide_placed}
use Rattle.islands.proofs.adding.widen_lists.Goals as goal

pub returns-clause-standing : goal.returns-clause-standing
returns-clause-standing c = rw (c.pad.ensures.items, c.pad-2.ensures.items, c.no_head.ensures) (wide_placed c.args.node_entries.now.items c.args.notes.now.items c.args.heads.now.items c.args.slots c.pad_node_entries.new.node_entries.items c.requires.standing c.pad_node_entries.ensures.widened)

pub returns-clause-labels : goal.returns-clause-labels
returns-clause-labels c = rw (c.pad.ensures.items, c.pad-2.ensures.items, c.no_head.ensures) (wide_labels c.args.node_entries.now.items c.args.notes.now.items c.args.heads.now.items c.args.slots c.pad_node_entries.new.node_entries.items c.requires.standing c.pad_node_entries.ensures.widened)
