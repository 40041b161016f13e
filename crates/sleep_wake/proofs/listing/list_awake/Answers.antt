use Rattle.std.proofs.Common.{arith}
use Rattle.sleep_wake.proofs.AwakeSlotsLaws.{all_awake_listed}
use Rattle.sleep_wake.proofs.listing.list_awake.Goals as goal

pub returns-clause-awake : goal.returns-clause-awake
returns-clause-awake c = all_awake_listed c.args.islands.now.labels c.loop-slot.slot c.loop-slot.slots.items (omega (arith, c.loop-slot-test.false, c.slots-slot-end.ensures.value)) c.loop-slot.invariant
