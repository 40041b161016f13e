use Rattle.box_tree.proofs.IndexLemmas.{index_stay}
use Rattle.box_tree.proofs.index.replace.Goals as goal

pub returns-then-contains-clause-index : goal.returns-then-contains-clause-index
returns-then-contains-clause-index c = index_stay _ c.args.entries.now.items c.args.boxes.now.items c.args.key c.args.entry.now c.args.bounds.now c.requires.index c.requires.entry (c.contains.ensures.contains.0 c.if-contains.true)
