use Rattle.std.proofs.Common.{arith, refl}
use Rattle.check_parts.proofs.SceneLaws.{all_listed, slot_step}
use Rattle.check_parts.proofs.contacts_table.slots_of.Goals as goal

pub loop-place-preserved : goal.loop-place-preserved
loop-place-preserved c = slot_step c.args.shapes.now c.loop-place.place _ _ _ c.loop-place.slots.items _ c.loop-place-test.true refl refl (omega arith) c.in_ok-push.ensures.items c.loop-place.invariant

pub returns : goal.returns
returns c = all_listed c.args.shapes.now c.loop-place.place c.loop-place.slots.items c.loop-place-test.false c.loop-place.invariant
