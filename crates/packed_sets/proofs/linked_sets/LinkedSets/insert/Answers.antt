use Rattle.packed_sets.proofs.linked_sets.LinkedSets.insert.Goals as goal

pub link_first-requires-clause-absent : goal.link_first-requires-clause-absent
link_first-requires-clause-absent c = rw (← c.self.view_is) at c.requires.absent
