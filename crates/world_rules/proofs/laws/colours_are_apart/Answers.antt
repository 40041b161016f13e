use Rattle.world_rules.proofs.HeadLaws.{colours_are_apart}
use Rattle.world_rules.proofs.laws.colours_are_apart.Goals as goal

pub returns : goal.returns
returns c = colours_are_apart
