use Rattle.std.proofs.Common.{refl}
use Rattle.std.proofs.lemmas.List.{take_all}
use Rattle.contacts.proofs.PlaceLaws.{places_begin, places_more}
use Rattle.contacts.proofs.stirring_places.push_places.Goals as goal

pub loop-place-init : goal.loop-place-init
loop-place-init c = places_begin c.args.entries.now c.args.numbers.now.contacts.items c.clear.new.self.items c.clear.ensures.items

pub loop-place-preserved : goal.loop-place-preserved
loop-place-preserved c = places_more c.args.entries.now c.args.numbers.now.contacts.items c.args.slots.now c.loop-place.place 0 _ c.loop-place.places.items _ _ c.loop-place-test.true refl c.loop-place.invariant c.in_ok-push_side.ensures.pushed c.in_ok-push_side-2.ensures.pushed

pub returns-clause-pushed : goal.returns-clause-pushed
returns-clause-pushed c = rw (take_all c.loop-place.place c.args.slots.now c.loop-place-test.false) at c.loop-place.invariant
