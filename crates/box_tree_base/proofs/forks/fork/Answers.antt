use Rattle.std.proofs.Common.{rules, arith}
use Rattle.box_tree_base.proofs.ForkLemmas.{fork_is_tree}
use Rattle.box_tree_base.proofs.forks.fork.Goals as goal

pub returns-clause-tree : goal.returns-clause-tree
returns-clause-tree c =
    fork_is_tree c.args.left c.args.right _
    (record { below = c.requires.below; from = c.requires.from; some_left = grind arith; some_right = grind arith; balanced = c.requires.balanced; height = search rules })
    (grind arith) (grind arith) (search rules) (search rules)
