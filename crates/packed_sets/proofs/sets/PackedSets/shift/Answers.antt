use Rattle.packed_sets.proofs.sets.PackedSets.shift.Goals as goal

pub returns-clause-absent : goal.returns-clause-absent
returns-clause-absent g c = λ absent. rw (← c.self.view_is) (c.shift_id.ensures.absent (rw (← c.self.view_is) at absent))

pub returns-clause-shifted : goal.returns-clause-shifted
returns-clause-shifted g c = λ from h. rw (← c.self.view_is) (c.shift_id.ensures.shifted from (rw (← c.self.view_is) at h))
