use Rattle.contacts.proofs.PlaceLaws.{place_pushed}
use Rattle.contacts.proofs.stirring_places.push_place_of.Goals as goal

pub returns-in_ok-push_place-clause-pushed : goal.returns-in_ok-push_place-clause-pushed
returns-in_ok-push_place-clause-pushed c =
    rw c.in-Some.is
    (place_pushed c.args.entries.now c.in-Some.contact c.seek_next.result c.has_key.result c.get.result c.args.places.now.items c.push_place.new.places.items c.requires.rising c.seek_next.ensures c.get.ensures.lookup c.has_key.ensures c.in_ok-push_place.ensures.pushed)
