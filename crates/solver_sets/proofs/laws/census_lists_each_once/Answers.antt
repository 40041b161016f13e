use Rattle.solver_sets.proofs.EachOnceLaws.{census_lists_each_once}
use Rattle.solver_sets.proofs.laws.census_lists_each_once.Goals as goal

pub returns : goal.returns
returns c = census_lists_each_once
