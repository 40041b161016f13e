use Rattle.world_lock.specs.Histories.{HasAll}
use Rattle.world_lock.proofs.shared.has_all.Given as goal

abbrev pub invariant-loop-number : goal.invariant-loop-number
invariant-loop-number g l = HasAll l.number l.seats
