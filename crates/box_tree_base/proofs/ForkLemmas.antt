-- What is known of a tree whose node is a fork.
use Rattle.std.proofs.Common.{◌≡◌, ◌+◌, ◌++◌, ◌<◌, ◌≤◌, length, Box, sym, ap, ◌∙◌, subst, length-append, arith}
use Rattle.std.specs.declared.alloc.Global.{Global}
use Rattle.box_tree_base.specs.Outline.{Outline}
use Rattle.box_tree_base.specs.Depths.{least_leaves}
use Rattle.box_tree_base.specs.Joins.{IsBounded}
use Rattle.box_tree_base.specs.Lists.{Each, IsRefitted}
use Rattle.box_tree_base.specs.Trees.{outline, IsTree, IsBelow, IsFrom, AreSides, AreBoxed}
use Rattle.box_tree_base.specs.declared.tree.Tree.{Tree}
use Rattle.box_tree_base.specs.declared.tree.Stem.{Stem}
use Rattle.box_tree_base.specs.declared.tree.Node.{Node}
use Rattle.box_tree_base.specs.declared.tree.Node.TheVariants.{Tip, Fork}
use Rattle.box_tree_base.proofs.DepthLemmas.{fork_leaves, below_leaves}
use Rattle.box_tree_base.proofs.ListLemmas.{bounded_joined, each_refitted, refitted_length}
use Rattle.box_tree_base.specs.declared.leaves.Leaf.{Leaf}
use Rattle.fixed_geom.specs.declared.boxes.Box2.{Box2}
use Rattle.std.proofs.lemmas.Int.{ints}

pub record AtFork (self left right : Outline) (stem : Stem) : Type 0 where
  pub leaves : self.leaves ≡ left.leaves ++ right.leaves
  pub height : self.height ≡ stem.height
  pub sides : AreSides left right stem.split stem.height
  pub boxed : AreBoxed left right stem.left stem.right

pub at_fork : {n m : Node} {d : Outline} {l r : Box Tree Global} {stem : Stem} → outline n ≡ d → IsTree n → m ≡ n → m ≡ Fork l stem r → AtFork d l.value r.value stem
at_fork {n} {m} {d} {l} {r} {stem} view tree same is =
    let e : n ≡ Fork l stem r = sym same ∙ is in
    let v : d ≡ outline (Fork l stem r) = sym view ∙ ap outline e in
    let t : IsTree (Fork l stem r) = subst IsTree e tree in
    record { leaves = ap (λ g. g.leaves) v; height = ap (λ g. g.height) v; sides = t.sides; boxed = t.boxed }

pub leaves_at : {n : Node} {d : Outline} {l r : Box Tree Global} {stem : Stem} → outline n ≡ d → n ≡ Fork l stem r → d.leaves ≡ l.value.leaves ++ r.value.leaves
leaves_at {n} {d} {l} {r} {stem} view is = let v : d ≡ outline (Fork l stem r) = sym view ∙ ap outline is in ap (λ g. g.leaves) v

-- two trees of enough leaves make one
pub fork_is_tree : (l r : Box Tree Global) (stem : Stem) → AreSides l.value r.value stem.split stem.height → least_leaves l.value.height ≤ length l.value.leaves → least_leaves r.value.height ≤ length r.value.leaves → Each (IsBounded stem.left) l.value.leaves → Each (IsBounded stem.right) r.value.leaves → IsTree (Fork l stem r)
fork_is_tree l r stem sides f g a b =
    let many = fork_leaves l.value.height r.value.height stem.height (length l.value.leaves) (length r.value.leaves) sides.balanced sides.height f g in
    record {
      sides = sides;
      boxed = record { left_side = a; right_side = b };
      round = bounded_joined stem.left stem.right l.value.leaves r.value.leaves a b;
      many = rw (length-append l.value.leaves r.value.leaves) many;
      below = rw (length-append l.value.leaves r.value.leaves) (below_leaves stem.height _ many);
    }

pub boxed_at : {n : Node} {l r : Box Tree Global} {stem : Stem} → IsTree n → n ≡ Fork l stem r → AreBoxed l.value r.value stem.left stem.right
boxed_at {n} {l} {r} {stem} tree is = let t : IsTree (Fork l stem r) = subst IsTree is tree in t.boxed

-- ---- a leaf in the stead of another

pub tip_is_tree : (leaf : Leaf) → IsTree (Tip leaf)
tip_is_tree leaf = record {
  sides = tt;
  boxed = tt;
  round = (record { left = omega (arith, ints); right = omega (arith, ints); down = omega (arith, ints); up = omega (arith, ints) }, tt);
  many = omega arith;
  below = omega arith;
}

pub left_refitted : (l m r : Box Tree Global) (stem : Stem) (b : Box2) (out in_stead : Leaf) → IsTree (Fork l stem r) → IsRefitted out in_stead l.value.leaves m.value.leaves → m.value.height ≡ l.value.height → in_stead.rank < stem.split → Each (IsBounded b) m.value.leaves → IsTree (Fork m (record stem { left = b }) r)
left_refitted l m r stem b out in_stead t h e lower within =
    let len : length m.value.leaves ≡ length l.value.leaves = refitted_length out in_stead l.value.leaves m.value.leaves h in
    let all : length (m.value.leaves ++ r.value.leaves) ≡ length (l.value.leaves ++ r.value.leaves) = length-append m.value.leaves r.value.leaves ∙ ap (λ n. n + length r.value.leaves) len ∙ sym (length-append l.value.leaves r.value.leaves) in
    record {
      sides = record {
        below = each_refitted (IsBelow stem.split) out in_stead l.value.leaves m.value.leaves h lower t.sides.below;
        from = t.sides.from;
        some_left = rw len t.sides.some_left;
        some_right = t.sides.some_right;
        balanced = rw e t.sides.balanced;
        height = rw e t.sides.height;
      };
      boxed = record { left_side = within; right_side = t.boxed.right_side };
      round = bounded_joined b stem.right m.value.leaves r.value.leaves within t.boxed.right_side;
      many = rw all t.many;
      below = rw all t.below;
    }

pub right_refitted : (l m r : Box Tree Global) (stem : Stem) (b : Box2) (out in_stead : Leaf) → IsTree (Fork l stem r) → IsRefitted out in_stead r.value.leaves m.value.leaves → m.value.height ≡ r.value.height → stem.split ≤ in_stead.rank → Each (IsBounded b) m.value.leaves → IsTree (Fork l (record stem { right = b }) m)
right_refitted l m r stem b out in_stead t h e upper within =
    let len : length m.value.leaves ≡ length r.value.leaves = refitted_length out in_stead r.value.leaves m.value.leaves h in
    let all : length (l.value.leaves ++ m.value.leaves) ≡ length (l.value.leaves ++ r.value.leaves) = length-append l.value.leaves m.value.leaves ∙ ap (λ n. length l.value.leaves + n) len ∙ sym (length-append l.value.leaves r.value.leaves) in
    record {
      sides = record {
        below = t.sides.below;
        from = each_refitted (IsFrom stem.split) out in_stead r.value.leaves m.value.leaves h upper t.sides.from;
        some_left = t.sides.some_left;
        some_right = rw len t.sides.some_right;
        balanced = rw e t.sides.balanced;
        height = rw e t.sides.height;
      };
      boxed = record { left_side = t.boxed.left_side; right_side = within };
      round = bounded_joined stem.left b l.value.leaves m.value.leaves t.boxed.left_side within;
      many = rw all t.many;
      below = rw all t.below;
    }
