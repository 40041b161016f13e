use Rattle.std.proofs.Common.{eqb}
use Rattle.std.proofs.lemmas.List.Filters.{dedup_is}
use Rattle.sleep_wake.proofs.NameLemmas.{sorted_has, sorted_has_no_more, sorted_rises}
use Rattle.sleep_wake.proofs.names.sort_once.Goals as goal

pub returns-clause-rising : goal.returns-clause-rising
returns-clause-rising c = sorted_rises _ _ c.sort_unstable.ensures.sorted (dedup_is eqb _ _ c.dedup.ensures.filtered)

pub returns-clause-extended : goal.returns-clause-extended
returns-clause-extended c = sorted_has _ _ _ c.sort_unstable.ensures.permutation (dedup_is eqb _ _ c.dedup.ensures.filtered)

pub returns-clause-none_new : goal.returns-clause-none_new
returns-clause-none_new c = sorted_has_no_more _ _ _ c.sort_unstable.ensures.permutation (dedup_is eqb _ _ c.dedup.ensures.filtered)
