use Rattle.world_rules.proofs.HeadLaws.{linked_movers_stand}
use Rattle.world_rules.proofs.laws.linked_movers_stand_together.Goals as goal

pub returns : goal.returns
returns c = linked_movers_stand
