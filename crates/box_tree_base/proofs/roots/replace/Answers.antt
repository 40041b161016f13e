use Rattle.box_tree_base.proofs.ListLemmas.{joined_second}
use Rattle.box_tree_base.proofs.RootLemmas.{first_refitted}
use Rattle.box_tree_base.proofs.roots.replace.Goals as goal

pub refit-requires-clause-span : goal.refit-requires-clause-span
refit-requires-clause-span c = rw c.joined-span.ensures (joined_second c.args.old.now.bounds c.args.new.now.bounds)

pub returns-then-old-new : goal.returns-then-old-new
returns-then-old-new c = first_refitted c.args.old.now c.args.new.now c.args.root.now.items _ c.refit.new.self c.requires.there c.index_mut.ensures.value c.refit.ensures.refitted
