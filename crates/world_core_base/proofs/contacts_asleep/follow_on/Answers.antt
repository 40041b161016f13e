use Rattle.std.proofs.Common.{refl, ◌∙◌, arith, length}
use Rattle.contacts.specs.Kept.{numbers_on}
use Rattle.packed_sets.specs.Packs.{list_at}
use Rattle.packed_sets.proofs.WalkLaws.{walk_at, walk_fewer}
use Rattle.world_core_base.specs.Asleep.{contact_sleep}
use Rattle.world_core_base.proofs.SideLaws.{following_all, following_first, following_more}
use Rattle.world_core_base.proofs.contacts_asleep.follow_on.Goals as goal

pub loop-next-init : goal.loop-next-init
loop-next-init c = (following_first (contact_sleep c.args.bodies.now c.args.contacts.now.numbered) (list_at (numbers_on c.args.side c.args.contacts.now) c.args.slot) c.first_at-next.result c.args.sets.now.names c.first_at-next.ensures.first, refl)

pub follow_contact-requires-clause-below : goal.follow_contact-requires-clause-below
follow_contact-requires-clause-below c name e =
    let less = c.requires.below c.in-Some.number name e in
    let long = c.loop-next.invariant.0.followed.long in
    omega (arith, less, long)

pub follow_contact-requires-clause-named : goal.follow_contact-requires-clause-named
follow_contact-requires-clause-named c name e =
    let less = c.requires.named c.in-Some.number name e in
    let same = c.loop-next.invariant.1 in
    omega (arith, less, same)

pub loop-next-preserved : goal.loop-next-preserved
loop-next-preserved c =
    let now = contact_sleep c.args.bodies.now c.args.contacts.now.numbered in
    let all = list_at (numbers_on c.args.side c.args.contacts.now) c.args.slot in (
      following_more now all c.loop-next.next c.in-Some.number (length c.args.sets.now.sets) c.behind-next.result c.args.sets.now.names c.loop-next.sets.names c.follow_contact.new.sets.names c.requires c.loop-next.invariant.0 c.in-Some.is c.follow_contact.ensures.names (λ front back e. c.behind-next.ensures c.args.slot front back e),
      c.follow_contact.ensures.sets ∙ c.loop-next.invariant.1,
    )

pub loop-next-smaller : goal.loop-next-smaller
loop-next-smaller c =
    let all = list_at (numbers_on c.args.side c.args.contacts.now) c.args.slot in
    let f = c.loop-next.invariant.0 in
    let here = walk_at all c.loop-next.next c.in-Some.number f.met f.left f.walk c.in-Some.is in
    rw c.in-Some.is (walk_fewer all c.in-Some.number f.met f.left c.behind-next.result c.first_at-next.ensures.once here (c.behind-next.ensures c.args.slot f.met here.back here.whole))

pub returns-clause-followed : goal.returns-clause-followed
returns-clause-followed c =
    let now = contact_sleep c.args.bodies.now c.args.contacts.now.numbered in
    let all = list_at (numbers_on c.args.side c.args.contacts.now) c.args.slot in
    following_all now all c.loop-next.next _ c.args.sets.now.names c.loop-next.sets.names c.loop-next.invariant.0 c.in_default.is (λ number own. (c.first_at-next.ensures.ends number).1 own)

pub returns-clause-sets : goal.returns-clause-sets
returns-clause-sets c = c.loop-next.invariant.1
