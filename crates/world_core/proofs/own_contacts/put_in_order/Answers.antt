use Rattle.std.proofs.Common.{rules}
use Rattle.std.proofs.lemmas.List.Sorted.{IsPermutation-trans, IsNonDecreasingBy-from_sort_by_key}
use Rattle.plain_world.specs.Constraints.{constraint_number}
use Rattle.sleep_wake.proofs.GatherLemmas.{sorted_is}
use Rattle.world_core.proofs.own_contacts.put_in_order.Goals as goal

pub returns : goal.returns
returns c = λ rising rises moved.
    sorted_is constraint_number rising c.sort_unstable_by_key.new.self.items rises
    (IsPermutation-trans rising c.args.ties.now.items c.sort_unstable_by_key.new.self.items moved c.sort_unstable_by_key.ensures.permutation)
    (IsNonDecreasingBy-from_sort_by_key (λ m. constraint_number m.id) _ c.sort_unstable_by_key.ensures.sorted (λ a r q k. search rules))
