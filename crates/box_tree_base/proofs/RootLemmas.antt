-- The tree of one leaf goes with it.
use Rattle.std.proofs.Common.{◌≡◌, ◌++◌, sym, ap, length, slice_index_or, slice_set, List, [], ◌∷◌, inl, inr, refl, arith}
use Rattle.box_tree_base.specs.Lists.{IsIn, IsAdded, IsRefitted}
use Rattle.box_tree_base.specs.Roots.{leaves_of, IsMoved}
use Rattle.box_tree_base.specs.declared.leaves.Leaf.{Leaf}
use Rattle.box_tree_base.specs.declared.tree.Tree.{Tree}

only_leaf : (leaf : Leaf) (leaves : List Leaf) → IsIn leaf leaves → length leaves ≡ 1 → IsAdded leaf [] leaves
only_leaf leaf [] there one = absurd there
only_leaf leaf (l ∷ []) (inl e) one = record { front = []; back = []; was = refl; is = ap (λ (x : Leaf). x ∷ []) (sym e) }
only_leaf leaf (l ∷ []) (inr h) one = absurd h
only_leaf leaf (l ∷ (m ∷ ls)) there one = absurd (omega (arith, one))

pub last_leaf : (leaf : Leaf) (trees : List Tree) (d : Tree) → IsIn leaf (leaves_of trees) → length (slice_index_or trees 0 d).leaves ≡ 1 → IsAdded leaf [] (leaves_of trees)
last_leaf leaf [] d there one = absurd there
last_leaf leaf (tree ∷ others) d there one = only_leaf leaf tree.leaves there one

-- what is put in the stead of a leaf is put in after that was taken out
refitted_moved : (out in_stead : Leaf) (old new : List Leaf) → IsRefitted out in_stead old new → IsMoved out in_stead old new
refitted_moved out in_stead old new h = record {
  rest = h.front ++ h.back;
  taken = record { front = h.front; back = h.back; was = refl; is = h.was };
  put = record { front = h.front; back = h.back; was = refl; is = h.is };
}

pub first_refitted : (out in_stead : Leaf) (trees : List Tree) (was is : Tree) → IsIn out (leaves_of trees) → was ≡ slice_index_or trees 0 was → IsRefitted out in_stead was.leaves is.leaves → IsMoved out in_stead (leaves_of trees) (leaves_of (slice_set trees 0 is))
first_refitted out in_stead [] was is there first h = absurd there
first_refitted out in_stead (tree ∷ others) was is there first h = refitted_moved out in_stead tree.leaves is.leaves (rw first at h)
