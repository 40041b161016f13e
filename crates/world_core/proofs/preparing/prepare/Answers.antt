use Rattle.std.proofs.Common.{arith}
use Rattle.world_core.proofs.WorldSourceLaws.{contacts_more}
use Rattle.world_core.proofs.preparing.prepare.Goals as goal

pub collide-requires-clause-few : goal.collide-requires-clause-few
collide-requires-clause-few g c = rw c.flush.ensures.bodies c.requires.few

pub collide-requires-clause-bodies : goal.collide-requires-clause-bodies
collide-requires-clause-bodies g c = rw c.flush.ensures.bodies c.requires.bodies

pub collide-requires-clause-known : goal.collide-requires-clause-known
collide-requires-clause-known g c = rw (c.flush.ensures.bodies, c.flush.ensures.marks) c.requires.known

pub list_sleepers-requires : goal.list_sleepers-requires
list_sleepers-requires g c = rw c.in_ok-reserve-2.ensures.acting c.requires.consistent

pub returns-clause-contacts_standing : goal.returns-clause-contacts_standing
returns-clause-contacts_standing g c = contacts_more c.args.activity.now.bodies.bodies c.args.constraints.now.contacts.numbered c.args.activity.now.contact_sets c.reserve-3.new.self c.reserve-3.ensures.same c.reserve-3.ensures.more_items c.reserve-3.ensures.more_sets c.requires.contacts_standing

pub returns-in_err-reserve-3-clause-contacts_standing : goal.returns-in_err-reserve-3-clause-contacts_standing
returns-in_err-reserve-3-clause-contacts_standing g c = contacts_more c.args.activity.now.bodies.bodies c.args.constraints.now.contacts.numbered c.args.activity.now.contact_sets c.reserve-3.new.self c.reserve-3.ensures.same c.reserve-3.ensures.more_items c.reserve-3.ensures.more_sets c.requires.contacts_standing

pub returns-clause-for_numbers : goal.returns-clause-for_numbers
returns-clause-for_numbers g c =
    let room = c.in_ok-reserve-3.ensures.items in
    rw (← c.number_bound.ensures.bound) (omega (arith, room))
