use Rattle.box_tree.proofs.IndexLemmas.{index_grow}
use Rattle.box_tree.proofs.boxes.BoxTree.grow.Goals as goal

pub invariant_of-self-2 : goal.invariant_of-self-2
invariant_of-self-2 c = record { index = rw (c.push_none.ensures, c.in_ok-reserve.ensures.items, c.in_ok-push.ensures.items) (index_grow _ c.self.inside.entries.items c.self.inside.boxes.items c.self.invariant.index (rw (← c.self.view_is) at c.requires)) }
