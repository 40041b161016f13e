use Rattle.std.proofs.Common.{◌≤◌, length, arith}
use Rattle.islands.proofs.GivenLaws.{all_first}
use Rattle.islands.proofs.islands.Islands.from_labels.Goals as goal

pub returns-clause-labels : goal.returns-clause-labels
returns-clause-labels c =
    let ended : length c.args.labels.now ≤ c.loop-slot.slot = omega (arith, c.loop-slot-test.false) in
    all_first c.args.labels.now c.loop-slot.islands.labels c.loop-slot.slot c.loop-slot.invariant.first ended
