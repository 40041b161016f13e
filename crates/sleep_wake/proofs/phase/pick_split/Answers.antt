use Rattle.std.proofs.Common.{◌∙◌}
use Rattle.sleep_wake.proofs.AgreeLaws.{picked_by_least}
use Rattle.sleep_wake.proofs.phase.pick_split.Goals as goal

pub returns-clause-picked : goal.returns-clause-picked
returns-clause-picked c = rw c.deref.ensures.value at c.longest_ready.ensures ∙ picked_by_least c.args.islands.now.labels c.args.timers.now c.list_leasts.new.leasts.items c.list_leasts.ensures.least
