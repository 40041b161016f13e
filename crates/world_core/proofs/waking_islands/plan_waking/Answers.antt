use Rattle.world_core.proofs.waking_islands.plan_waking.Goals as goal

pub returns-clause-movers : goal.returns-clause-movers
returns-clause-movers c = rw c.deref.ensures.value at c.in_ok-movers.ensures.islands
