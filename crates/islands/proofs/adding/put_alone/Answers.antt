use Rattle.islands.proofs.AloneLemmas.{alone_labels, alone_placed}
use Rattle.islands.proofs.adding.put_alone.Goals as goal

pub returns-clause-standing : goal.returns-clause-standing
returns-clause-standing c = rw (c.own_note.ensures, c.own_head.ensures, c.node_of-node.ensures) (alone_placed c.args.node_entries.now c.args.notes.now.items c.args.heads.now.items c.args.slot c.requires.standing c.requires.fresh c.requires.there)

pub returns-clause-labels : goal.returns-clause-labels
returns-clause-labels c = rw (c.own_note.ensures, c.own_head.ensures, c.node_of-node.ensures) (alone_labels c.args.node_entries.now c.args.notes.now.items c.args.heads.now.items c.args.slot c.requires.standing c.requires.fresh c.requires.there)
