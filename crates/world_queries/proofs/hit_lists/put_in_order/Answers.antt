use Rattle.std.proofs.Common.{rules}
use Rattle.std.proofs.lemmas.List.Sorted.{IsNonDecreasingBy-from_sort_by_key}
use Rattle.world_queries.specs.AllHits.{hit_number}
use Rattle.world_queries.proofs.hit_lists.put_in_order.Goals as goal

pub returns-clause-ascending : goal.returns-clause-ascending
returns-clause-ascending c = IsNonDecreasingBy-from_sort_by_key hit_number _ c.sort_unstable_by_key.ensures.sorted (λ a r q k. search rules)
