use Rattle.std.proofs.Common.{sym, ◌∙◌}
use Rattle.world_file.proofs.Alone.{unjoined_first}
use Rattle.world_file.proofs.components.join_slots.Goals as goal

pub returns-in-None : goal.returns-in-None
returns-in-None c = unjoined_first c.args.islands.now.labels c.args.first c.args.second (sym c.label_of.ensures.value ∙ c.in-None.is)
