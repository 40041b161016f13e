use Rattle.std.proofs.Common.{◌∙◌, ap}
use Rattle.islands.specs.Labels.{sleeping_name}
use Rattle.world_core.proofs.SleeperLaws.{name_pushed}
use Rattle.world_core.proofs.TellingLaws.{added_extends}
use Rattle.world_core.proofs.list_to_wake.push_name.Goals as goal

pub returns-clause-name : goal.returns-clause-name
returns-clause-name c = name_pushed c.args.sets.now.acting.labels c.args.slot _ _ _ (c.sleeping_name.ensures ∙ ap sleeping_name c.label_of.ensures.value) c.in_ok-push_some.ensures.pushed

pub returns-clause-extended : goal.returns-clause-extended
returns-clause-extended c = added_extends _ _ _ c.in_ok-push_some.ensures.pushed
