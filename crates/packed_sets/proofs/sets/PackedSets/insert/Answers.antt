use Rattle.packed_sets.proofs.sets.PackedSets.insert.Goals as goal

pub put_in-requires-clause-absent : goal.put_in-requires-clause-absent
put_in-requires-clause-absent g c = rw (← c.self.view_is) at c.requires.absent

pub returns-clause-put : goal.returns-clause-put
returns-clause-put g c = rw (← c.self.view_is) c.put_in.ensures.put
