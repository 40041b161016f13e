use Rattle.std.proofs.Common.{sym, ◌∙◌}
use Rattle.sleep_wake.proofs.sets.Sets.wake.Goals as goal

pub wake_island-requires-clause-island : goal.wake_island-requires-clause-island
wake_island-requires-clause-island g c = c.know_consistent.ensures.islands.partition.named c.args.slot c.in-Some.label (sym c.label_of.ensures.value ∙ c.in-Some.is)

pub wake_island-requires-clause-asleep : goal.wake_island-requires-clause-asleep
wake_island-requires-clause-asleep g c = sym c.is_asleep.ensures ∙ c.if-is_asleep.true
