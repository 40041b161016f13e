use Rattle.std.proofs.Common.{rules}
use Rattle.std.proofs.lemmas.List.Sorted.{IsNonDecreasingBy-from_sort_by_key}
use Rattle.contacts_base.specs.Keys.{key_number}
use Rattle.event_feed.proofs.OrderLemmas.{rising_kept}
use Rattle.event_feed.proofs.events.ascending_contacts.Goals as goal

pub returns-clause-ascends : goal.returns-clause-ascends
returns-clause-ascends c = IsNonDecreasingBy-from_sort_by_key key_number _ c.sort_unstable_by_key.ensures.sorted (λ a r q k. search rules)

pub returns-clause-kept : goal.returns-clause-kept
returns-clause-kept c = rising_kept key_number _ _ c.sort_unstable_by_key.ensures.permutation (returns-clause-ascends c)
