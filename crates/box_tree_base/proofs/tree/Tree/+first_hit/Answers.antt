use Rattle.std.proofs.Common.{rules}
use Rattle.box_tree_base.proofs.ForkLemmas.{leaves_at, boxed_at}
use Rattle.box_tree_base.proofs.ListLemmas.{each_left, each_right}
use Rattle.box_tree_base.proofs.WalkLemmas.{none_nearer, first_of_both}
use Rattle.box_tree_base.proofs.tree.Tree.+first_hit.Goals as goal
use Rattle.box_tree_base.proofs.tree.Tree.+first_hit.Goals.{then-reaches, else-reaches}

pub first_hit-requires : goal.first_hit-requires
first_hit-requires g t c =
    let m = rw (leaves_at c.self.view_is c.in-Fork.is) at c.requires in
    λ κs lives. (search rules, (search rules, rw c.deref.ensures (each_left _ _ c.in-Fork.right.value.leaves m)))

pub first_hit-requires-then-reaches-2 : goal.first_hit-requires-then-reaches-2
first_hit-requires-then-reaches-2 g t c =
    let m = rw (leaves_at c.self.view_is c.in-Fork.is) at c.requires in
    λ κs lives. (search rules, (search rules, rw c.deref-then-reaches-2.ensures (each_right _ c.in-Fork.left.value.leaves _ m)))

pub returns-then-reaches-2 : goal.returns-then-reaches-2
returns-then-reaches-2 g t c =
    let is = leaves_at c.self.view_is c.in-Fork.is in
    let boxed = boxed_at c.self.invariant c.in-Fork.is in
    let m = rw is at c.requires in
    first_of_both (g.R.Ray.hit c.args.ray.now) c.in-Fork.left.value.leaves c.in-Fork.right.value.leaves c.args.self.now.leaves c.args.best.now c.if-reaches.best _ is
    (elim c.if-reaches.branch [
      | then-reaches w ↦ rw (w.best-is, ← w.deref.ensures) w.first_hit.ensures
      | else-reaches w ↦ rw w.best-is (none_nearer (g.R.Ray.reaches c.args.ray.now) (g.R.Ray.hit c.args.ray.now) c.in-Fork.stem.left c.in-Fork.left.value.leaves c.args.best.now (λ outer inner. g.met.R.Ray.misses_within c.args.ray.now outer inner) boxed.left_side (each_left _ _ c.in-Fork.right.value.leaves m) w.if-reaches.ensures)
    ])
    (rw (← c.deref-then-reaches-2.ensures) c.first_hit-then-reaches-2.ensures)

pub returns-else-reaches-2 : goal.returns-else-reaches-2
returns-else-reaches-2 g t c =
    let is = leaves_at c.self.view_is c.in-Fork.is in
    let boxed = boxed_at c.self.invariant c.in-Fork.is in
    let m = rw is at c.requires in
    first_of_both (g.R.Ray.hit c.args.ray.now) c.in-Fork.left.value.leaves c.in-Fork.right.value.leaves c.args.self.now.leaves c.args.best.now c.if-reaches.best _ is
    (elim c.if-reaches.branch [
      | then-reaches w ↦ rw (w.best-is, ← w.deref.ensures) w.first_hit.ensures
      | else-reaches w ↦ rw w.best-is (none_nearer (g.R.Ray.reaches c.args.ray.now) (g.R.Ray.hit c.args.ray.now) c.in-Fork.stem.left c.in-Fork.left.value.leaves c.args.best.now (λ outer inner. g.met.R.Ray.misses_within c.args.ray.now outer inner) boxed.left_side (each_left _ _ c.in-Fork.right.value.leaves m) w.if-reaches.ensures)
    ])
    (none_nearer (g.R.Ray.reaches c.args.ray.now) (g.R.Ray.hit c.args.ray.now) c.in-Fork.stem.right c.in-Fork.right.value.leaves c.if-reaches.best (λ outer inner. g.met.R.Ray.misses_within c.args.ray.now outer inner) boxed.right_side (each_right _ c.in-Fork.left.value.leaves _ m) c.if-reaches-2.ensures)
