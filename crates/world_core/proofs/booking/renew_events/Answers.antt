use Rattle.world_core.proofs.booking.renew_events.Goals as goal

pub returns-clause-begin : goal.returns-clause-begin
returns-clause-begin c = c.renew.ensures.begin_kept c.requires.begin

pub returns-clause-end : goal.returns-clause-end
returns-clause-end c = c.renew.ensures.end_kept c.requires.end

pub returns-clause-slept : goal.returns-clause-slept
returns-clause-slept c = c.renew.ensures.slept_kept c.requires.slept

pub returns-clause-woke : goal.returns-clause-woke
returns-clause-woke c = c.renew.ensures.woke_kept c.requires.woke
