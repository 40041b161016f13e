use Rattle.std.proofs.Common.{◌+◌, arith}
use Rattle.packed_sets.proofs.MarkLaws.{left_next, left_none}
use Rattle.contacts.proofs.stirring_flags.unflag.Goals as goal

pub loop-place-preserved : goal.loop-place-preserved
loop-place-preserved c = left_next c.args.flags.now.items c.loop-place.flags.items c.args.flagged.now c.loop-place.place (c.loop-place.place + 1) 0 c.loop-place-test.true (omega arith) c.loop-place.invariant

pub returns : goal.returns
returns c = left_none c.args.flags.now.items c.loop-place.flags.items c.args.flagged.now c.loop-place.place c.loop-place-test.false c.loop-place.invariant
