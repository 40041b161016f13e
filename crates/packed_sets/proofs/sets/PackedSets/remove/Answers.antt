use Rattle.packed_sets.proofs.sets.PackedSets.remove.Goals as goal

pub returns-clause-absent : goal.returns-clause-absent
returns-clause-absent g c = λ absent. rw (← c.self.view_is) (c.take_id.ensures.absent (rw (← c.self.view_is) at absent))
