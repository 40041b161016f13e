use Rattle.box_tree.specs.Tables.{leaf_of}
use Rattle.box_tree.proofs.KeptLemmas.{kept_remove}
use Rattle.box_tree.proofs.table.remove.Goals as goal

pub returns-clause-kept : goal.returns-clause-kept
returns-clause-kept c = kept_remove _ _ _ (leaf_of c.args.key c.args.entry.now) c.requires.kept c.requires.room (rw c.leaf_at.ensures at c.remove.ensures)
