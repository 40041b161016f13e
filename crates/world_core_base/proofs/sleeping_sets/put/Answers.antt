use Rattle.std.proofs.Common.{arith}
use Rattle.world_core_base.proofs.SleepingLaws.{absent, kept_put}
use Rattle.world_core_base.proofs.sleeping_sets.put.Goals as goal

pub insert-requires-clause-noted : goal.insert-requires-clause-noted
insert-requires-clause-noted c = let below = c.requires.below in omega (arith, below, c.requires.kept.long)

pub insert-requires-clause-absent : goal.insert-requires-clause-absent
insert-requires-clause-absent c = absent c.args.names.now.items c.args.sets.now c.args.id c.requires.kept c.requires.awake

pub returns-clause-kept : goal.returns-clause-kept
returns-clause-kept c = kept_put c.args.names.now.items c.args.sets.now c.insert.new.self c.args.name c.args.id c.requires.kept c.requires.below c.requires.awake c.insert.ensures.put c.insert.ensures.ids
