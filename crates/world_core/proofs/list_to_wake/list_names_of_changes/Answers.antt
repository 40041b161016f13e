use Rattle.world_core.proofs.SleeperLaws.{names_kept}
use Rattle.world_core.proofs.list_to_wake.list_names_of_changes.Goals as goal

pub returns-clause-names : goal.returns-clause-names
returns-clause-names c = names_kept c.args.sets.now.acting.labels c.args.changes.now _ _ c.sort_once.ensures.extended c.in_ok-push_names_of_all.ensures.names
