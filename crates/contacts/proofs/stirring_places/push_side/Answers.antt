use Rattle.std.proofs.Common.{Option, subst}
use Rattle.contacts.specs.declared.number_book.NumberedContact.{NumberedContact}
use Rattle.contacts.specs.Ends.{ends_on}
use Rattle.contacts.specs.StirringPlaces.{ArePushed, IsPlaceOf}
use Rattle.contacts.proofs.PlaceLaws.{side_begins, side_fewer, side_goes, side_over, thread_once}
use Rattle.packed_sets.specs.Packs.{list_at}
use Rattle.contacts.proofs.stirring_places.push_side.Goals as goal

pub loop-next-init : goal.loop-next-init
loop-next-init c = side_begins (list_at (ends_on c.args.side c.args.numbers.now.ends).sets c.args.slot) c.first_at-next.result c.args.entries.now c.args.numbers.now.contacts.items c.args.places.now.items c.first_at-next.ensures

pub loop-next-preserved : goal.loop-next-preserved
loop-next-preserved c =
    side_goes (list_at (ends_on c.args.side c.args.numbers.now.ends).sets c.args.slot) c.loop-next.next c.in-Some.number c.behind-next.result c.args.entries.now c.args.numbers.now.contacts.items c.args.places.now.items c.loop-next.places.items c.push_place_of.new.places.items c.loop-next.invariant c.in-Some.is
    (subst (λ (o : Option NumberedContact). ArePushed (IsPlaceOf c.args.entries.now o) c.loop-next.places.items c.push_place_of.new.places.items) c.contact.ensures c.in_ok-push_place_of.ensures.pushed) (λ front back e. c.behind-next.ensures c.args.slot front back e)

pub loop-next-smaller : goal.loop-next-smaller
loop-next-smaller c =
    rw c.in-Some.is
    (side_fewer (list_at (ends_on c.args.side c.args.numbers.now.ends).sets c.args.slot) c.loop-next.next c.in-Some.number c.behind-next.result c.args.entries.now c.args.numbers.now.contacts.items c.args.places.now.items c.loop-next.places.items
    (thread_once c.args.side c.args.slot c.args.numbers.now.ends c.know_once.ensures.firsts c.know_once.ensures.seconds) c.loop-next.invariant c.in-Some.is (λ front back e. c.behind-next.ensures c.args.slot front back e))

pub returns-clause-pushed : goal.returns-clause-pushed
returns-clause-pushed c = side_over c.args.side c.args.slot c.loop-next.next c.args.entries.now c.args.numbers.now c.args.places.now.items c.loop-next.places.items c.requires.book c.loop-next.invariant c.in_default.is
