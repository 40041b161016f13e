use Rattle.std.proofs.Common.{refl}
use Rattle.contacts.proofs.NearMarkedLaws.{slot_pushed}
use Rattle.contacts.proofs.moved_pairs.push_numbers_with.Goals as goal

pub loop-place-preserved : goal.loop-place-preserved
loop-place-preserved g c = slot_pushed (g.S.ShapesById.proxies c.args.shapes.now) c.args.p.now c.args.slots.now c.loop-place.place _ _ _ _ _ c.loop-place-test.true refl c.in_ok-push_numbers_in.ensures.pushed c.loop-place.invariant
