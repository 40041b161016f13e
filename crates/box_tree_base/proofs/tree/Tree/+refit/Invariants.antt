use Rattle.box_tree_base.proofs.tree.Tree.+refit.Given as goal

abbrev pub decreases-refit : goal.decreases-refit
decreases-refit l = goal.size-refit l
