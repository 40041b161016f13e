use Rattle.world_core_base.proofs.SleepingLaws.{long_more}
use Rattle.world_core_base.proofs.sleeping_sets.reserve_names.Goals as goal

pub returns-clause-items : goal.returns-clause-items
returns-clause-items c = rw (c.fill_names.ensures, c.reserve.ensures.items) (long_more c.args.names.now.items c.args.items)
