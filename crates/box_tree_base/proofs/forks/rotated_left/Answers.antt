use Rattle.std.proofs.Common.{◌≡◌, ◌++◌, ap}
use Rattle.box_tree_base.proofs.ListLemmas.{each_left, each_right, wider_from, wider_below}
use Rattle.box_tree_base.proofs.forks.rotated_left.Goals as goal

pub fork-requires-clause-from : goal.fork-requires-clause-from
fork-requires-clause-from c =
    let is : c.args.right.value.leaves ≡ c.in-Fork.inner.value.leaves ++ c.in-Fork.outer.value.leaves = cc (ap (λ d. d.leaves) c.in-Fork.ensures.same) in
    each_left _ _ c.in-Fork.outer.value.leaves (rw is at c.requires.from)

pub fork-requires-then-height-clause-below : goal.fork-requires-then-height-clause-below
fork-requires-then-height-clause-below c =
    let is : c.args.right.value.leaves ≡ c.in-Fork.inner.value.leaves ++ c.in-Fork.outer.value.leaves = cc (ap (λ d. d.leaves) c.in-Fork.ensures.same) in
    let s = rw is at c.requires.from in
    let a = c.in-Fork.ensures.tree.sides in
    rw (c.close.ensures, c.fork.ensures.leaves) (wider_below c.args.split _ _ _ a.some_left (each_left _ _ c.in-Fork.outer.value.leaves s) a.below c.requires.below)

pub fork-requires-2-clause-from : goal.fork-requires-2-clause-from
fork-requires-2-clause-from c =
    let is : c.args.right.value.leaves ≡ c.in-Fork.inner.value.leaves ++ c.in-Fork.outer.value.leaves = cc (ap (λ d. d.leaves) c.in-Fork.ensures.same) in
    let s = rw is at c.requires.from in
    let a = c.in-Fork.ensures.tree.sides in
    let parts : c.in-Fork.inner.value.leaves ≡ c.in-Fork-taken.low.value.leaves ++ c.in-Fork-taken.high.value.leaves = cc (ap (λ d. d.leaves) c.in-Fork-taken.ensures.same) in
    let b = c.in-Fork-taken.ensures.tree.sides in
    each_left _ _ c.in-Fork-taken.high.value.leaves (rw parts at (each_left _ _ c.in-Fork.outer.value.leaves s))

pub fork-requires-3-clause-below : goal.fork-requires-3-clause-below
fork-requires-3-clause-below c =
    let is : c.args.right.value.leaves ≡ c.in-Fork.inner.value.leaves ++ c.in-Fork.outer.value.leaves = cc (ap (λ d. d.leaves) c.in-Fork.ensures.same) in
    let s = rw is at c.requires.from in
    let a = c.in-Fork.ensures.tree.sides in
    let parts : c.in-Fork.inner.value.leaves ≡ c.in-Fork-taken.low.value.leaves ++ c.in-Fork-taken.high.value.leaves = cc (ap (λ d. d.leaves) c.in-Fork-taken.ensures.same) in
    let b = c.in-Fork-taken.ensures.tree.sides in
    each_right _ c.in-Fork-taken.low.value.leaves _ (rw parts at a.below)

pub fork-requires-4-clause-below : goal.fork-requires-4-clause-below
fork-requires-4-clause-below c =
    let is : c.args.right.value.leaves ≡ c.in-Fork.inner.value.leaves ++ c.in-Fork.outer.value.leaves = cc (ap (λ d. d.leaves) c.in-Fork.ensures.same) in
    let s = rw is at c.requires.from in
    let a = c.in-Fork.ensures.tree.sides in
    let parts : c.in-Fork.inner.value.leaves ≡ c.in-Fork-taken.low.value.leaves ++ c.in-Fork-taken.high.value.leaves = cc (ap (λ d. d.leaves) c.in-Fork-taken.ensures.same) in
    let b = c.in-Fork-taken.ensures.tree.sides in
    rw (c.close-2.ensures, c.fork-2.ensures.leaves) (wider_below c.args.split _ _ _ b.some_left (each_left _ _ c.in-Fork-taken.high.value.leaves (rw parts at (each_left _ _ c.in-Fork.outer.value.leaves s))) b.below c.requires.below)

pub fork-requires-4-clause-from : goal.fork-requires-4-clause-from
fork-requires-4-clause-from c =
    let is : c.args.right.value.leaves ≡ c.in-Fork.inner.value.leaves ++ c.in-Fork.outer.value.leaves = cc (ap (λ d. d.leaves) c.in-Fork.ensures.same) in
    let s = rw is at c.requires.from in
    let a = c.in-Fork.ensures.tree.sides in
    let parts : c.in-Fork.inner.value.leaves ≡ c.in-Fork-taken.low.value.leaves ++ c.in-Fork-taken.high.value.leaves = cc (ap (λ d. d.leaves) c.in-Fork-taken.ensures.same) in
    let b = c.in-Fork-taken.ensures.tree.sides in
    rw (c.close-3.ensures, c.fork-3.ensures.leaves) (wider_from _ c.in-Fork.stem.split _ _ b.some_right b.from (each_right _ c.in-Fork-taken.low.value.leaves _ (rw parts at a.below)) a.from)
