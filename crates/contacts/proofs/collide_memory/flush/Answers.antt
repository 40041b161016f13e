use Rattle.contacts.proofs.collide_memory.flush.Goals as goal

pub returns-clause-held : goal.returns-clause-held
returns-clause-held c = c.invalidate.ensures c.flush.new.self
