use Rattle.std.proofs.Common.{rules, refl, ap, sym, ◌∙◌, subst}
use Rattle.box_tree_base.specs.Trees.{outline, IsTree}
use Rattle.box_tree_base.proofs.ForkLemmas.{AtFork, at_fork, tip_is_tree, left_refitted, right_refitted}
use Rattle.box_tree_base.specs.Joins.{IsBounded}
use Rattle.box_tree_base.proofs.ListLemmas.{in_left, in_right, refitted_left, refitted_right, alone_refitted, each_refitted, contains_both}
use Rattle.box_tree_base.proofs.tree.Tree.+refit.Goals as goal
use Rattle.box_tree_base.proofs.tree.Tree.+refit.Goals.{in-Tip, in-Fork+then-old-stem, in-Fork+else-old-stem}

pub refit-requires : goal.refit-requires
refit-requires t c =
    let f : AtFork c.args.self.now c.in-Fork.left.value c.in-Fork.right.value c.in-Fork.stem = at_fork c.self.view_is c.self.invariant refl c.in-Fork.is in
    rw c.deref_mut.ensures.value (search rules, (in_left _ _ _ _ c.if-old-stem.true f.sides.from (rw f.leaves at c.requires.there), (c.requires.rank, c.requires.span)))

pub refit-requires-else-old-stem : goal.refit-requires-else-old-stem
refit-requires-else-old-stem t c =
    let f : AtFork c.args.self.now c.in-Fork.left.value c.in-Fork.right.value c.in-Fork.stem = at_fork c.self.view_is c.self.invariant refl c.in-Fork.is in
    rw c.deref_mut-else-old-stem.ensures.value (search rules, (in_right _ _ _ _ c.if-old-stem.false f.sides.below (rw f.leaves at c.requires.there), (c.requires.rank, c.requires.span)))

pub bounds_after-stem-requires : goal.bounds_after-stem-requires
bounds_after-stem-requires t c =
    let f : AtFork c.args.self.now c.in-Fork.left.value c.in-Fork.right.value c.in-Fork.stem = at_fork c.self.view_is c.self.invariant refl c.in-Fork.is in
    λ h. rw c.deref.ensures (each_refitted (IsBounded c.in-Fork.stem.left) c.args.old.now c.args.new.now _ _ (rw c.deref_mut.ensures.value at c.refit.ensures.refitted) (contains_both _ _ _ h c.requires.span) f.boxed.left_side)

pub bounds_after-stem-requires-else-old-stem : goal.bounds_after-stem-requires-else-old-stem
bounds_after-stem-requires-else-old-stem t c =
    let f : AtFork c.args.self.now c.in-Fork.left.value c.in-Fork.right.value c.in-Fork.stem = at_fork c.self.view_is c.self.invariant refl c.in-Fork.is in
    λ h. rw c.deref-else-old-stem.ensures (each_refitted (IsBounded c.in-Fork.stem.right) c.args.old.now c.args.new.now _ _ (rw c.deref_mut-else-old-stem.ensures.value at c.refit-else-old-stem.ensures.refitted) (contains_both _ _ _ h c.requires.span) f.boxed.right_side)

pub invariant_of-self : goal.invariant_of-self
invariant_of-self t c =
    elim c.match-self.branch [
      | in-Tip w ↦ rw w.self-inside-is (tip_is_tree c.args.new.now)
      | in-Fork+then-old-stem w ↦ rw w.self-inside-is (left_refitted w.in-Fork.left _ w.in-Fork.right w.in-Fork.stem w.bounds_after-stem.result c.args.old.now c.args.new.now (subst IsTree w.in-Fork.is c.self.invariant) (rw w.deref_mut.ensures.value at w.refit.ensures.refitted) (rw w.deref_mut.ensures.value at w.refit.ensures.height) (rw c.requires.rank w.if-old-stem.true) (rw w.deref.ensures at w.bounds_after-stem.ensures))
      | in-Fork+else-old-stem w ↦ rw w.self-inside-is (right_refitted w.in-Fork.left _ w.in-Fork.right w.in-Fork.stem w.bounds_after-stem-else-old-stem.result c.args.old.now c.args.new.now (subst IsTree w.in-Fork.is c.self.invariant) (rw w.deref_mut-else-old-stem.ensures.value at w.refit-else-old-stem.ensures.refitted) (rw w.deref_mut-else-old-stem.ensures.value at w.refit-else-old-stem.ensures.height) (rw c.requires.rank w.if-old-stem.false) (rw w.deref-else-old-stem.ensures at w.bounds_after-stem-else-old-stem.ensures))
    ]

pub returns-clause-refitted : goal.returns-clause-refitted
returns-clause-refitted t c =
    elim c.match-self.branch [
      | in-Tip w ↦ rw w.self-inside-is (alone_refitted c.args.old.now c.args.new.now w.in-Tip.leaf c.args.self.now.leaves (ap (λ g. g.leaves) (sym c.self.view_is ∙ ap outline w.in-Tip.is)) c.requires.there)
      | in-Fork+then-old-stem w ↦
          let f : AtFork c.args.self.now w.in-Fork.left.value w.in-Fork.right.value w.in-Fork.stem = at_fork c.self.view_is c.self.invariant refl w.in-Fork.is in
          rw (w.self-inside-is, f.leaves) (refitted_left _ _ _ _ w.in-Fork.right.value.leaves (rw w.deref_mut.ensures.value at w.refit.ensures.refitted))
      | in-Fork+else-old-stem w ↦
          let f : AtFork c.args.self.now w.in-Fork.left.value w.in-Fork.right.value w.in-Fork.stem = at_fork c.self.view_is c.self.invariant refl w.in-Fork.is in
          rw (w.self-inside-is, f.leaves) (refitted_right _ _ w.in-Fork.left.value.leaves _ _ (rw w.deref_mut-else-old-stem.ensures.value at w.refit-else-old-stem.ensures.refitted))
    ]
