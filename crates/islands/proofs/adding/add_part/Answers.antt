use Rattle.std.proofs.Common.{◌+◌}
use Rattle.islands.proofs.WideLemmas.{wide_fresh}
use Rattle.islands.proofs.adding.add_part.Goals as goal

pub put_alone-requires-clause-fresh : goal.put_alone-requires-clause-fresh
put_alone-requires-clause-fresh c = rw c.deref.ensures.value (wide_fresh c.args.node_entries.now.items c.args.notes.now.items c.args.heads.now.items (c.args.slot + 1) c.args.slot c.widen_lists.new.node_entries.items c.widen_lists.new.notes.items c.widen_lists.new.heads.items c.widen_lists.ensures.labels c.requires.fresh)
