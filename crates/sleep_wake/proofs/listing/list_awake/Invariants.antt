use Rattle.std.proofs.Common.{◌≡◌, ◌++◌, drop}
use Rattle.sleep_wake.proofs.AwakeSlotsLaws.{awake_from}
use Rattle.sleep_wake.proofs.listing.list_awake.Given as goal

abbrev pub invariant-loop-slot : goal.invariant-loop-slot
invariant-loop-slot l = l.slots.items ++ awake_from l.slot (drop l.slot l.islands.labels) ≡ awake_from 0 l.islands.labels
