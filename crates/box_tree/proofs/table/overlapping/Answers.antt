use Rattle.box_tree.proofs.SortLemmas.{sorted_is_loose}
use Rattle.box_tree.proofs.table.overlapping.Goals as goal

pub returns : goal.returns
returns c = sorted_is_loose _ _ _ _ c.requires (rw c.in_ok-found.ensures at c.sort_unstable.ensures.permutation) c.sort_unstable.ensures.sorted
