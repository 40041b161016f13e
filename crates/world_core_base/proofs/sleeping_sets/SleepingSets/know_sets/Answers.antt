use Rattle.world_core_base.proofs.sleeping_sets.SleepingSets.know_sets.Goals as goal

pub returns-clause-those : goal.returns-clause-those
returns-clause-those c = λ name id. rw (← c.self.view_is) (c.self.invariant.known id name, c.self.invariant.there id name)
