use Rattle.std.proofs.Common.{◌≡◌, drop}
use Rattle.world_lock.specs.Histories.{has_seat}
use Rattle.world_lock.proofs.shared.has.Given as goal

abbrev pub invariant-loop-seat : goal.invariant-loop-seat
invariant-loop-seat g l = has_seat l.number l.seats ≡ has_seat l.number (drop l.seat-index l.seats)
