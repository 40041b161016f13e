use Rattle.box_tree.proofs.KeptLemmas.{kept_add}
use Rattle.box_tree.proofs.table.insert.Goals as goal

pub returns-clause-kept : goal.returns-clause-kept
returns-clause-kept c = kept_add _ _ _ c.args.key c.args.entry.now c.requires.kept c.requires.room c.requires.free (rw c.leaf_at.ensures at c.in_ok-insert.ensures.inserted)
