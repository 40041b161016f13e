use Rattle.world_rules.proofs.HeadLaws.{sleeping_sets_are}
use Rattle.world_rules.proofs.laws.sleeping_sets_are_components.Goals as goal

pub returns : goal.returns
returns c = sleeping_sets_are
