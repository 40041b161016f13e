use Rattle.std.proofs.Common.{rules, ◌≡◌, length, arith, length-append}
use Rattle.box_tree_base.proofs.ForkLemmas.{AtFork, at_fork}
use Rattle.box_tree_base.proofs.ListLemmas.{each_removed, added_left, added_right, in_left, in_right, only, first_gone, last_gone}
use Rattle.box_tree_base.proofs.tree.Tree.+remove.Goals as goal

pub remove-boxes-requires : goal.remove-boxes-requires
remove-boxes-requires t c =
    let f : AtFork c.args.self.now c.in-Fork.left.value c.in-Fork.right.value c.in-Fork.stem = at_fork c.self.view_is c.self.invariant c.replace.ensures.value c.in-Fork.is in
    rw c.deref_mut-else-height-eq0.ensures.value (search rules, (in_left _ _ _ _ c.if-leaf-stem.true f.sides.from (rw f.leaves at c.requires.there), (grind arith, grind (arith, length-append c.in-Fork.left.value.leaves c.in-Fork.right.value.leaves, f.leaves))))

pub balanced-requires-clause-below : goal.balanced-requires-clause-below
balanced-requires-clause-below t c =
    let f : AtFork c.args.self.now c.in-Fork.left.value c.in-Fork.right.value c.in-Fork.stem = at_fork c.self.view_is c.self.invariant c.replace.ensures.value c.in-Fork.is in
    each_removed _ _ _ _ (rw c.deref_mut-else-height-eq0.ensures.value at c.remove-boxes.ensures.removed) f.sides.below

pub remove-boxes-requires-else-height-eq0-2 : goal.remove-boxes-requires-else-height-eq0-2
remove-boxes-requires-else-height-eq0-2 t c =
    let f : AtFork c.args.self.now c.in-Fork.left.value c.in-Fork.right.value c.in-Fork.stem = at_fork c.self.view_is c.self.invariant c.replace.ensures.value c.in-Fork.is in
    rw c.deref_mut-else-height-eq0-2.ensures.value (search rules, (in_right _ _ _ _ c.if-leaf-stem.false f.sides.below (rw f.leaves at c.requires.there), (grind arith, grind (arith, length-append c.in-Fork.left.value.leaves c.in-Fork.right.value.leaves, f.leaves))))

pub balanced-requires-else-height-eq0-2-clause-from : goal.balanced-requires-else-height-eq0-2-clause-from
balanced-requires-else-height-eq0-2-clause-from t c =
    let f : AtFork c.args.self.now c.in-Fork.left.value c.in-Fork.right.value c.in-Fork.stem = at_fork c.self.view_is c.self.invariant c.replace.ensures.value c.in-Fork.is in
    each_removed _ _ _ _ (rw c.deref_mut-else-height-eq0-2.ensures.value at c.remove-boxes-else-height-eq0-2.ensures.removed) f.sides.from

pub returns-then-height-eq0-clause-removed : goal.returns-then-height-eq0-clause-removed
returns-then-height-eq0-clause-removed t c =
    let f : AtFork c.args.self.now c.in-Fork.left.value c.in-Fork.right.value c.in-Fork.stem = at_fork c.self.view_is c.self.invariant c.replace.ensures.value c.in-Fork.is in
    let one : length c.in-Fork.left.value.leaves ≡ 1 = grind arith in
    let i = in_left _ _ _ _ c.if-leaf-stem.true f.sides.from (rw f.leaves at c.requires.there) in
    rw (c.taken.ensures.same, c.deref_mut.ensures.value, f.leaves) (first_gone _ _ _ (only _ _ one i))

pub returns-then-height-eq0-2-clause-removed : goal.returns-then-height-eq0-2-clause-removed
returns-then-height-eq0-2-clause-removed t c =
    let f : AtFork c.args.self.now c.in-Fork.left.value c.in-Fork.right.value c.in-Fork.stem = at_fork c.self.view_is c.self.invariant c.replace.ensures.value c.in-Fork.is in
    let one : length c.in-Fork.right.value.leaves ≡ 1 = grind arith in
    let i = in_right _ _ _ _ c.if-leaf-stem.false f.sides.below (rw f.leaves at c.requires.there) in
    rw (c.taken-then-height-eq0-2.ensures.same, c.deref_mut-then-height-eq0-2.ensures.value, f.leaves) (last_gone _ _ _ (only _ _ one i))

pub returns-else-height-eq0-2-clause-removed : goal.returns-else-height-eq0-2-clause-removed
returns-else-height-eq0-2-clause-removed t c =
    let f : AtFork c.args.self.now c.in-Fork.left.value c.in-Fork.right.value c.in-Fork.stem = at_fork c.self.view_is c.self.invariant c.replace.ensures.value c.in-Fork.is in
    rw (c.balanced-else-height-eq0-2.ensures.leaves, f.leaves) (added_right _ _ _ _ (rw c.deref_mut-else-height-eq0-2.ensures.value at c.remove-boxes-else-height-eq0-2.ensures.removed))

pub returns-else-height-eq0-clause-removed : goal.returns-else-height-eq0-clause-removed
returns-else-height-eq0-clause-removed t c =
    let f : AtFork c.args.self.now c.in-Fork.left.value c.in-Fork.right.value c.in-Fork.stem = at_fork c.self.view_is c.self.invariant c.replace.ensures.value c.in-Fork.is in
    rw (c.balanced.ensures.leaves, f.leaves) (added_left _ _ _ _ (rw c.deref_mut-else-height-eq0.ensures.value at c.remove-boxes.ensures.removed))
