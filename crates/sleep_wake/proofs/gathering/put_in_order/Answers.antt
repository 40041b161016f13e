use Rattle.std.proofs.Common.{rules}
use Rattle.std.proofs.lemmas.List.Sorted.{IsPermutation-trans, IsNonDecreasingBy-from_sort_by_key}
use Rattle.sleep_wake.proofs.GatherLemmas.{sorted_is}
use Rattle.sleep_wake.proofs.gathering.put_in_order.Goals as goal

pub returns-clause-items : goal.returns-clause-items
returns-clause-items g c = λ rising rises moved.
    sorted_is g.C.ConstraintId.number rising c.sort_unstable_by_key.new.self.items rises
    (IsPermutation-trans rising c.args.list.now.items c.sort_unstable_by_key.new.self.items moved c.sort_unstable_by_key.ensures.permutation)
    (IsNonDecreasingBy-from_sort_by_key (λ m. g.C.ConstraintId.number m.id) _ c.sort_unstable_by_key.ensures.sorted (λ a r q k. search rules))
