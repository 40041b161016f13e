use Rattle.std.proofs.Common.{◌≡◌, replicate}
use Rattle.world_lock.specs.Tallies.{no_calls}
use Rattle.world_lock.proofs.tally.no_tallies.Given as goal

abbrev pub invariant-loop-seat : goal.invariant-loop-seat
invariant-loop-seat l = l.tallies.items ≡ replicate l._seat no_calls
