use Rattle.std.proofs.Common.{◌≡◌, ◌∷◌, [], refl}
use Rattle.box_tree_base.specs.Trees.{outline}
use Rattle.box_tree_base.proofs.forks.pair.Goals as goal

pub returns-then-leaf-other-clause-added : goal.returns-then-leaf-other-clause-added
returns-then-leaf-other-clause-added c =
    let is : (outline c.fork.result).leaves ≡ c.args.leaf.now ∷ c.args.other.now ∷ [] = rw (c.fork.ensures.leaves, c.tip.ensures, c.tip-then-leaf-other.ensures) refl in
    record { front = []; back = c.args.other.now ∷ []; was = refl; is = is }
