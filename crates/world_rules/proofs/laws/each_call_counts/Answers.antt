use Rattle.world_rules.proofs.CountLaws.{each_call_counts, pushes_are_small}
use Rattle.world_rules.proofs.laws.each_call_counts.Goals as goal

pub returns-clause-calls : goal.returns-clause-calls
returns-clause-calls c = each_call_counts

pub returns-clause-pushes : goal.returns-clause-pushes
returns-clause-pushes c = pushes_are_small
