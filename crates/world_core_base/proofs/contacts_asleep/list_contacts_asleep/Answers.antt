use Rattle.std.proofs.Common.{◌<◌, ◌≤◌, Option, length, ap, ◌∙◌, arith}
use Rattle.contacts.specs.declared.number_book.NumberedContact.{NumberedContact}
use Rattle.contacts.specs.Numbered.{contact_at}
use Rattle.world_core_base.specs.Asleep.{contact_sleep, movers_of_contact, sleep_with}
use Rattle.world_core_base.proofs.ContactAsleepLaws.{contact_named, contact_past}
use Rattle.world_core_base.proofs.TieSleepLaws.{there_below}
use Rattle.world_core_base.proofs.FollowLaws.{length_placed, listing_all, listing_first, listing_more}
use Rattle.world_core_base.proofs.contacts_asleep.list_contacts_asleep.Goals as goal

pub loop-number-init : goal.loop-number-init
loop-number-init c = (listing_first (contact_sleep c.args.bodies.now c.args.contacts.now.numbered) c.reserve.new.self.names c.new-sets.result.names c.new-sets.ensures.names c.reserve.ensures.same, (c.in_ok-reserve.ensures.items, c.in_ok-reserve.ensures.sets))

pub add_contact-requires-clause-awake : goal.add_contact-requires-clause-awake
add_contact-requires-clause-awake c = c.loop-number.invariant.0.rest c.loop-number.number (omega arith)

pub add_contact-requires-clause-below : goal.add_contact-requires-clause-below
add_contact-requires-clause-below c = let room = c.loop-number.invariant.1.0 in omega (arith, c.loop-number-test.true, room)

pub add_contact-requires-clause-named : goal.add_contact-requires-clause-named
add_contact-requires-clause-named c name e = let room = c.loop-number.invariant.1.1 in let below = contact_named c.args.bodies.now (contact_at c.args.contacts.now.numbered c.loop-number.number) name c.requires e in omega (arith, below, room)

pub loop-number-preserved : goal.loop-number-preserved
loop-number-preserved c =
    let now = contact_sleep c.args.bodies.now c.args.contacts.now.numbered in
    let number = c.loop-number.number in
    let below : number < length c.loop-number.sets.names = let room = c.loop-number.invariant.1.0 in omega (arith, c.loop-number-test.true, room) in
    let long = ap length c.add_contact.ensures.names ∙ length_placed (now number) number c.loop-number.sets.names in
    (listing_more now number c.loop-number.sets.names c.add_contact.new.sets.names below c.loop-number.invariant.0 c.add_contact.ensures.names, (let room = c.loop-number.invariant.1.0 in omega (arith, long, room), let room = c.loop-number.invariant.1.1 in omega (arith, c.add_contact.ensures.sets, room)))

pub returns-clause-asleep : goal.returns-clause-asleep
returns-clause-asleep c =
    let bodies = c.args.bodies.now in
    let numbered = c.args.contacts.now.numbered in
    let ended : length numbered ≤ c.loop-number.number = omega (arith, c.loop-number-test.false, c.number_bound-count.ensures.numbered) in
    record {
      asleep = listing_all (contact_sleep bodies numbered) c.loop-number.number c.loop-number.sets.names (λ id le. ap (λ (o : Option NumberedContact). sleep_with bodies (movers_of_contact bodies o)) (contact_past numbered id (omega (arith, ended, le)))) c.loop-number.invariant.0;
      items = λ number on. let below = there_below (contact_at numbered) (length numbered) (contact_past numbered) number on in let room = c.loop-number.invariant.1.0 in omega (arith, below, room, c.number_bound-count.ensures.numbered);
      named = c.loop-number.invariant.1.1;
    }
