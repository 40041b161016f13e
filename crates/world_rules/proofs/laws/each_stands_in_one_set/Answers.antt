use Rattle.world_rules.proofs.StandLaws.{each_stands_in_one_set}
use Rattle.world_rules.proofs.laws.each_stands_in_one_set.Goals as goal

pub returns : goal.returns
returns c = each_stands_in_one_set
