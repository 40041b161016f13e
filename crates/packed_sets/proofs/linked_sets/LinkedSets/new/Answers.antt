use Rattle.packed_sets.proofs.LinkLaws.{none_linked}
use Rattle.packed_sets.proofs.linked_sets.LinkedSets.new.Goals as goal

pub invariant_of-result : goal.invariant_of-result
invariant_of-result c = rw (c.new.ensures.items, c.new-2.ensures.items) none_linked
