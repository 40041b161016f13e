use Rattle.std.proofs.Common.{rules, arith, length-append}
use Rattle.box_tree_base.proofs.ForkLemmas.{AtFork, at_fork}
use Rattle.box_tree_base.proofs.ListLemmas.{each_left, each_right, each_added, added_left, added_right}
use Rattle.box_tree_base.proofs.tree.Tree.+insert.Goals as goal
use Rattle.box_tree_base.proofs.tree.Tree.+insert.Goals.{in-Fork-2, in-Tip-2, in-Fork-3, in-Tip-3}

pub insert-requires : goal.insert-requires
insert-requires t c =
    let f : AtFork c.args.self.now c.in-Fork.left.value c.in-Fork.right.value c.in-Fork.stem = at_fork c.self.view_is c.self.invariant c.replace.ensures.value c.in-Fork.is in
    rw c.deref_mut.ensures.value (search rules, (each_left _ _ c.in-Fork.right.value.leaves (rw f.leaves at c.requires.other), grind (arith, length-append c.in-Fork.left.value.leaves c.in-Fork.right.value.leaves, f.leaves)))

pub balanced-requires-clause-below : goal.balanced-requires-clause-below
balanced-requires-clause-below t c =
    let f : AtFork c.args.self.now c.in-Fork.left.value c.in-Fork.right.value c.in-Fork.stem = at_fork c.self.view_is c.self.invariant c.replace.ensures.value c.in-Fork.is in
    each_added _ _ _ _ (rw c.deref_mut.ensures.value at c.insert.ensures.added) c.if-leaf-stem.true f.sides.below

pub insert-requires-else-leaf-stem : goal.insert-requires-else-leaf-stem
insert-requires-else-leaf-stem t c =
    let f : AtFork c.args.self.now c.in-Fork.left.value c.in-Fork.right.value c.in-Fork.stem = at_fork c.self.view_is c.self.invariant c.replace.ensures.value c.in-Fork.is in
    rw c.deref_mut-else-leaf-stem.ensures.value (search rules, (each_right _ c.in-Fork.left.value.leaves _ (rw f.leaves at c.requires.other), grind (arith, length-append c.in-Fork.left.value.leaves c.in-Fork.right.value.leaves, f.leaves)))

pub balanced-requires-else-leaf-stem-clause-from : goal.balanced-requires-else-leaf-stem-clause-from
balanced-requires-else-leaf-stem-clause-from t c =
    let f : AtFork c.args.self.now c.in-Fork.left.value c.in-Fork.right.value c.in-Fork.stem = at_fork c.self.view_is c.self.invariant c.replace.ensures.value c.in-Fork.is in
    each_added _ _ _ _ (rw c.deref_mut-else-leaf-stem.ensures.value at c.insert-else-leaf-stem.ensures.added) c.if-leaf-stem.false f.sides.from

pub returns-else-leaf-stem-clause-added : goal.returns-else-leaf-stem-clause-added
returns-else-leaf-stem-clause-added t c =
    let f : AtFork c.args.self.now c.in-Fork.left.value c.in-Fork.right.value c.in-Fork.stem = at_fork c.self.view_is c.self.invariant c.replace.ensures.value c.in-Fork.is in
    let k = added_right _ c.in-Fork.left.value.leaves _ _ (rw c.deref_mut-else-leaf-stem.ensures.value at c.insert-else-leaf-stem.ensures.added) in
    elim c.match-self-balanced-2.branch [
      | in-Fork-3 w ↦ rw (w.self-is, f.leaves, c.balanced-else-leaf-stem.ensures.leaves) k
      | in-Tip-3 w ↦ rw (w.self-is, f.leaves, c.balanced-else-leaf-stem.ensures.leaves) k
    ]

pub returns-then-leaf-stem-clause-added : goal.returns-then-leaf-stem-clause-added
returns-then-leaf-stem-clause-added t c =
    let f : AtFork c.args.self.now c.in-Fork.left.value c.in-Fork.right.value c.in-Fork.stem = at_fork c.self.view_is c.self.invariant c.replace.ensures.value c.in-Fork.is in
    let k = added_left _ c.in-Fork.left.value.leaves _ c.in-Fork.right.value.leaves (rw c.deref_mut.ensures.value at c.insert.ensures.added) in
    elim c.match-self-balanced.branch [
      | in-Fork-2 w ↦ rw (w.self-is, f.leaves, c.balanced.ensures.leaves) k
      | in-Tip-2 w ↦ rw (w.self-is, f.leaves, c.balanced.ensures.leaves) k
    ]
