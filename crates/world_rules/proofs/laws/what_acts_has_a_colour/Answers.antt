use Rattle.world_rules.proofs.HeadLaws.{what_acts_has_a_colour}
use Rattle.world_rules.proofs.laws.what_acts_has_a_colour.Goals as goal

pub returns : goal.returns
returns c = what_acts_has_a_colour
