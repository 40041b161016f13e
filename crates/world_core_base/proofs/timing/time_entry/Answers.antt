use Rattle.world_core_base.proofs.timing.time_entry.Goals as goal

pub time-requires-clause-body : goal.time-requires-clause-body
time-requires-clause-body c = (c.requires.body c.in-Some.body c.in-Some.is).body

pub time-requires-clause-timer : goal.time-requires-clause-timer
time-requires-clause-timer c = (c.requires.body c.in-Some.body c.in-Some.is).timer
