use Rattle.std.proofs.Common.{arith}
use Rattle.world_core_base.proofs.SleepingLaws.{fewer_left, kept_taken, noted}
use Rattle.world_core_base.proofs.sleeping_sets.take.Goals as goal

pub index_mut-requires : goal.index_mut-requires
index_mut-requires c = let below = noted c.args.names.now.items c.args.id c.args.name (c.requires.kept.known c.args.id c.args.name c.requires.there) in omega (arith, below, c.args.names.now.ok.0)

pub returns-clause-kept : goal.returns-clause-kept
returns-clause-kept c = kept_taken c.args.names.now.items c.args.sets.now c.remove.new.self c.args.name c.args.id c.requires.kept c.requires.there c.remove.ensures.taken c.remove.ensures.gone c.remove.ensures.ids

pub returns-clause-fewer : goal.returns-clause-fewer
returns-clause-fewer c = fewer_left c.args.sets.now.sets c.remove.new.self.sets c.args.name c.args.id c.remove.ensures.taken
