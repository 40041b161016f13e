use Rattle.contacts.specs.Kept.{numbers_on}
use Rattle.packed_sets.proofs.WalkLaws.{walk_at, walk_fewer}
use Rattle.packed_sets.specs.Packs.{list_at}
use Rattle.world_core.specs.WorldTies.{contact_tie_in}
use Rattle.world_core.proofs.PushLaws.{listing_all, listing_first, listing_more}
use Rattle.world_core.proofs.own_contacts.push_ties_on.Goals as goal

pub loop-next-init : goal.loop-next-init
loop-next-init c = listing_first (contact_tie_in c.args.bodies.now c.args.contacts.now.numbered) (list_at (numbers_on c.args.side c.args.contacts.now) c.args.slot) c.first_at-next.result c.args.ties.now.items c.first_at-next.ensures.first

pub loop-next-smaller : goal.loop-next-smaller
loop-next-smaller c =
    let thread = list_at (numbers_on c.args.side c.args.contacts.now) c.args.slot in
    let f = c.loop-next.invariant in
    let here = walk_at thread c.loop-next.next c.in-Some.number f.met f.left f.walk c.in-Some.is in
    rw c.in-Some.is (walk_fewer thread c.in-Some.number f.met f.left c.behind-next.result c.first_at-next.ensures.once here (c.behind-next.ensures c.args.slot f.met here.back here.whole))

pub loop-next-preserved : goal.loop-next-preserved
loop-next-preserved c =
    let thread = list_at (numbers_on c.args.side c.args.contacts.now) c.args.slot in
    listing_more (contact_tie_in c.args.bodies.now c.args.contacts.now.numbered) thread c.loop-next.next c.in-Some.number c.behind-next.result c.args.ties.now.items c.loop-next.ties.items c.push_some.new.items.items c.contact_tie.result c.loop-next.invariant c.in-Some.is (rw c.contact.ensures at c.contact_tie.ensures) c.in_ok-push_some.ensures.pushed (λ front back e. c.behind-next.ensures c.args.slot front back e)

pub returns-clause-items : goal.returns-clause-items
returns-clause-items c = listing_all (contact_tie_in c.args.bodies.now c.args.contacts.now.numbered) (list_at (numbers_on c.args.side c.args.contacts.now) c.args.slot) c.loop-next.next c.args.ties.now.items c.loop-next.ties.items c.loop-next.invariant c.in_default.is
