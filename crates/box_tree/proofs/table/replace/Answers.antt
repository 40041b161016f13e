use Rattle.box_tree.specs.Tables.{leaf_of}
use Rattle.box_tree.proofs.KeptLemmas.{kept_replace}
use Rattle.box_tree.proofs.table.replace.Goals as goal

pub returns-clause-kept : goal.returns-clause-kept
returns-clause-kept c = kept_replace _ _ _ (leaf_of c.args.key c.args.old.now) c.args.new.now c.requires.kept c.requires.room (rw (c.leaf_at.ensures, c.leaf_at-2.ensures) at c.replace.ensures)
