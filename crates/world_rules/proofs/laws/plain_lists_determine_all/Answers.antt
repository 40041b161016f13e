use Rattle.world_rules.proofs.SameAnswers.{plain_lists_determine_all}
use Rattle.world_rules.proofs.laws.plain_lists_determine_all.Goals as goal

pub returns : goal.returns
returns c = plain_lists_determine_all
