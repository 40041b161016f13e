use Rattle.std.proofs.Common.{◌≡◌, List, ◌++◌}
use Rattle.std.specs.Prelude.{All}
use Rattle.world_lock.specs.Histories.{IsPastFor, Known}
use Rattle.world_lock.proofs.held.meet_all.Given as goal

abbrev pub invariant-loop-seat : goal.invariant-loop-seat
invariant-loop-seat g l = (l.keeper ≡ l.initial.keeper) × ((done : List Known) × (done ++ l.seat-iterator.rest.items ≡ l.fn.seats.items) × All (IsPastFor g.N.Named.seats l.initial.keeper) done)
