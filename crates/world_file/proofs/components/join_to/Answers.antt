use Rattle.std.proofs.Common.{sym, ◌∙◌}
use Rattle.world_file.proofs.Alone.{unjoined_second}
use Rattle.world_file.proofs.components.join_to.Goals as goal

pub returns-in-None : goal.returns-in-None
returns-in-None c = unjoined_second c.args.islands.now.labels c.args.first c.args.second (sym c.label_of.ensures.value ∙ c.in-None.is)
