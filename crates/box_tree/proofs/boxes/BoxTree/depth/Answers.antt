use Rattle.std.proofs.Common.{◌∙◌, sym, arith}
use Rattle.box_tree.proofs.IndexLemmas.{few_leaves}
use Rattle.box_tree.proofs.HeightLemmas.{depth_within, none_boxed, enough_boxed}
use Rattle.box_tree.proofs.boxes.BoxTree.depth.Goals as goal

pub depth-requires : goal.depth-requires
depth-requires c = rw c.deref.ensures.value (omega (arith, few_leaves _ c.self.inside.entries.items c.self.inside.boxes.items c.self.invariant.index))

pub returns-clause-few : goal.returns-clause-few
returns-clause-few c = depth_within c.depth.result _ (few_leaves _ c.self.inside.entries.items c.self.inside.boxes.items c.self.invariant.index) (rw c.deref.ensures.value at c.depth.ensures.leaves)

pub returns-clause-none : goal.returns-clause-none
returns-clause-none c = λ e. rw (← c.self.view_is) (none_boxed c.self.inside.root.items c.self.inside.entries.items c.self.inside.boxes.items c.self.invariant.index (sym (rw c.deref.ensures.value at c.depth.ensures.value) ∙ e))

pub returns-clause-balanced : goal.returns-clause-balanced
returns-clause-balanced c = λ forks e. rw (← c.self.view_is) (enough_boxed forks _ c.self.inside.entries.items c.self.inside.boxes.items c.self.invariant.index (rw c.deref.ensures.value at (c.depth.ensures.leaves forks e)))
