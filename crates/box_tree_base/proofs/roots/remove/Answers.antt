use Rattle.std.proofs.Common.{◌∙◌, sym}
use Rattle.box_tree_base.proofs.RootLemmas.{last_leaf}
use Rattle.box_tree_base.proofs.roots.remove.Goals as goal

pub returns-then-height-eq0 : goal.returns-then-height-eq0
returns-then-height-eq0 c = rw c.clear.ensures.items (last_leaf c.args.leaf.now c.args.root.now.items c.index.result.now c.requires.there (rw (← c.index.ensures) (c.height.ensures.tip (sym c.height.ensures.value ∙ c.if-height-eq0.true))))
