use Rattle.box_tree.proofs.IndexLemmas.{no_boxes}
use Rattle.box_tree.proofs.boxes.BoxTree.new.Goals as goal

pub invariant_of-result : goal.invariant_of-result
invariant_of-result c = record { index = rw (c.new.ensures.items, c.new-2.ensures.items, c.new-3.ensures.items) no_boxes }
