use Rattle.solver_sets.proofs.CensusLaws.{lists_are_census}
use Rattle.solver_sets.proofs.laws.lists_are_census.Goals as goal

pub returns : goal.returns
returns c = lists_are_census
