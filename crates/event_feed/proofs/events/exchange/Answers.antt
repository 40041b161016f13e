use Rattle.event_feed.proofs.OrderLemmas.{slots_kept}
use Rattle.event_feed.proofs.events.exchange.Goals as goal

pub returns-clause-kept : goal.returns-clause-kept
returns-clause-kept c = rw c.swap.ensures.x_after at (slots_kept _ _ c.sort_unstable.ensures.permutation c.sort_unstable.ensures.sorted)
