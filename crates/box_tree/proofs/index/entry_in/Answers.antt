use Rattle.box_tree.proofs.IndexLemmas.{entry_read}
use Rattle.box_tree.proofs.index.entry_in.Goals as goal

pub returns : goal.returns
returns c = entry_read c.args.entries.now c.args.key
