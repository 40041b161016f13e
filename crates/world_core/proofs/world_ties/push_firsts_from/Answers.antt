use Rattle.std.proofs.Common.{arith, vec_capacity}
use Rattle.contacts.specs.Kept.{numbers_on}
use Rattle.packed_sets.proofs.WalkLaws.{walk_at, walk_fewer}
use Rattle.packed_sets.specs.Packs.{list_at}
use Rattle.world_core.specs.WorldTies.{contact_tie_in, if_first}
use Rattle.world_core.proofs.PushLaws.{pushing_all, pushing_first, pushing_more, pushing_room}
use Rattle.world_core.proofs.world_ties.push_firsts_from.Goals as goal

pub loop-next-init : goal.loop-next-init
loop-next-init c =
    let thread = list_at (numbers_on c.args.side c.args.contacts.now) c.args.slot in
    record { pushing = pushing_first (λ number. if_first c.args.slot (contact_tie_in c.args.bodies.now c.args.contacts.now.numbered number)) thread c.args.first c.args.list.now.items (vec_capacity c.args.list.now) c.requires.first c.requires.room; capacity = omega arith }

pub put_some-requires : goal.put_some-requires
put_some-requires c = λ there.
    let thread = list_at (numbers_on c.args.side c.args.contacts.now) c.args.slot in
    let is = rw (c.contact_tie.ensures, c.contact.ensures) at c.if_first.ensures in
    let few = pushing_room (λ number. if_first c.args.slot (contact_tie_in c.args.bodies.now c.args.contacts.now.numbered number)) thread c.loop-next.next c.in-Some.number c.args.list.now.items c.loop-next.list.items (vec_capacity c.args.list.now) c.if_first.result c.loop-next.invariant.pushing c.in-Some.is is there in
    omega (arith, few, c.loop-next.invariant.capacity, c.loop-next.list.ok.0)

pub loop-next-smaller : goal.loop-next-smaller
loop-next-smaller c =
    let thread = list_at (numbers_on c.args.side c.args.contacts.now) c.args.slot in
    let f = c.loop-next.invariant.pushing in
    let here = walk_at thread c.loop-next.next c.in-Some.number f.met f.left f.walk c.in-Some.is in
    rw c.in-Some.is (walk_fewer thread c.in-Some.number f.met f.left c.behind-next.result c.requires.once here (c.behind-next.ensures c.args.slot f.met here.back here.whole))

pub loop-next-preserved : goal.loop-next-preserved
loop-next-preserved c =
    let thread = list_at (numbers_on c.args.side c.args.contacts.now) c.args.slot in
    let is = rw (c.contact_tie.ensures, c.contact.ensures) at c.if_first.ensures in
    record {
      pushing = pushing_more (λ number. if_first c.args.slot (contact_tie_in c.args.bodies.now c.args.contacts.now.numbered number)) thread c.loop-next.next c.in-Some.number c.behind-next.result c.args.list.now.items c.loop-next.list.items c.put_some.new.items.items (vec_capacity c.args.list.now) c.if_first.result c.loop-next.invariant.pushing c.in-Some.is is c.put_some.ensures.items (λ front back e. c.behind-next.ensures c.args.slot front back e);
      capacity = omega (arith, c.loop-next.invariant.capacity, c.put_some.ensures.capacity);
    }

pub returns-clause-items : goal.returns-clause-items
returns-clause-items c = pushing_all (λ number. if_first c.args.slot (contact_tie_in c.args.bodies.now c.args.contacts.now.numbered number)) (list_at (numbers_on c.args.side c.args.contacts.now) c.args.slot) c.loop-next.next c.args.list.now.items c.loop-next.list.items (vec_capacity c.args.list.now) c.loop-next.invariant.pushing c.in_default.is
