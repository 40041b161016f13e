use Rattle.std.proofs.Common.{sym}
use Rattle.box_tree_base.proofs.ForkLemmas.{leaves_at, boxed_at}
use Rattle.box_tree_base.proofs.WalkLemmas.{none_added, both_added}
use Rattle.box_tree_base.proofs.tree.Tree.+collect.Goals as goal
use Rattle.box_tree_base.proofs.tree.Tree.+collect.Goals.{then-overlaps-2+in_ok-collect-in-Fork, else-overlaps-2}

pub returns-in_ok-collect-in-Fork-2 : goal.returns-in_ok-collect-in-Fork-2
returns-in_ok-collect-in-Fork-2 t c =
    let boxed = boxed_at c.self.invariant c.in-Fork.is in
    both_added c.args.wanted.now c.in-Fork.left.value.leaves c.in-Fork.right.value.leaves c.args.self.now.leaves c.args.found.now.items c.if-overlaps-2.found.items _ (leaves_at c.self.view_is c.in-Fork.is)
    (elim c.if-overlaps-2.branch [
      | then-overlaps-2+in_ok-collect-in-Fork w ↦ rw (w.found-is, ← w.deref.ensures) w.in_ok-collect-in-Fork.ensures
      | else-overlaps-2 w ↦ rw w.found-is (none_added c.in-Fork.stem.left c.args.wanted.now c.in-Fork.left.value.leaves c.args.found.now.items boxed.left_side (sym w.if-overlaps-2.ensures.value))
    ])
    (rw (← c.deref-then-overlaps-3.ensures) c.in_ok-collect-in-Fork-2.ensures)

pub returns-else-overlaps-3 : goal.returns-else-overlaps-3
returns-else-overlaps-3 t c =
    let boxed = boxed_at c.self.invariant c.in-Fork.is in
    both_added c.args.wanted.now c.in-Fork.left.value.leaves c.in-Fork.right.value.leaves c.args.self.now.leaves c.args.found.now.items c.if-overlaps-2.found.items _ (leaves_at c.self.view_is c.in-Fork.is)
    (elim c.if-overlaps-2.branch [
      | then-overlaps-2+in_ok-collect-in-Fork w ↦ rw (w.found-is, ← w.deref.ensures) w.in_ok-collect-in-Fork.ensures
      | else-overlaps-2 w ↦ rw w.found-is (none_added c.in-Fork.stem.left c.args.wanted.now c.in-Fork.left.value.leaves c.args.found.now.items boxed.left_side (sym w.if-overlaps-2.ensures.value))
    ])
    (none_added c.in-Fork.stem.right c.args.wanted.now c.in-Fork.right.value.leaves c.if-overlaps-2.found.items boxed.right_side (sym c.if-overlaps-3.ensures.value))
