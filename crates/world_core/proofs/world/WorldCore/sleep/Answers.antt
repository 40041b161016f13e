use Rattle.std.proofs.Common.{◌≡◌, ◌<◌, ◌^◌, ◌+◌, arith, None, refl}
use Rattle.std.proofs.lemmas.Int.{ints}
use Rattle.plain_world.specs.Slots.{body_of}
use Rattle.world_rules.specs.Apply.{mover_refusal}
use Rattle.world_core.specs.contracts.world.WorldCore.{the_view}
use Rattle.world_core.proofs.Whole.{rest_booked, sleep_answers, sleep_whole}
use Rattle.world_core.proofs.CoreLaws.{core_bodies}
use Rattle.world_core.proofs.PartLaws.{entry_fits}
use Rattle.world_core.proofs.ReadyLaws.{core_ready}
use Rattle.world_core.proofs.world.WorldCore.sleep.Goals as goal

pub put_to_sleep-rest-requires-clause-movers : goal.put_to_sleep-rest-requires-clause-movers
put_to_sleep-rest-requires-clause-movers c = rw c.deref.ensures.value c.in_ok-movers.ensures.island

pub put_to_sleep-rest-requires-clause-ready : goal.put_to_sleep-rest-requires-clause-ready
put_to_sleep-rest-requires-clause-ready c = rw c.slot_entries.ensures (core_ready c.self.inside c.self.invariant)

pub book-requires-clause-fits : goal.book-requires-clause-fits
book-requires-clause-fits c =
    let small = c.put_to_sleep-rest.ensures.small in
    entry_fits (the_view c.self.inside) _ c.reserve.new.self _ c.self.invariant.whole c.in_ok-reserve.ensures.entries c.in_ok-reserve.ensures.settled
    (omega (arith, ints, small.x)) (omega (arith, ints, small.y))

pub invariant_of-self-2 : goal.invariant_of-self-2
invariant_of-self-2 c =
    let calls : c.self.inside.calls < 2 ^ 40 = rw (← c.self.view_is) at c.requires in
    core_bodies (the_view c.self.inside) _ _ _ c.self.inside.activity.bodies c.put_to_sleep-rest.new.activity.bodies c.self.invariant
    (rw (c.book.ensures.entries, c.book.ensures.settled, c.in_ok-reserve.ensures.entries, c.in_ok-reserve.ensures.settled, rest_booked (c.self.inside.calls + 1) c.put_to_sleep-rest.new.activity.sets.acting.labels c.self.inside.activity.bodies.bodies c.put_to_sleep-rest.new.activity.bodies.bodies c.put_to_sleep-rest.result c.put_to_sleep-rest.ensures.told c.put_to_sleep-rest.ensures.momentum)
    (sleep_whole (the_view c.self.inside) c.args.handle.slot c.self.inside.activity.sets.acting c.put_to_sleep-rest.new.activity.sets.acting _ c.self.invariant.whole calls c.put_to_sleep-rest.ensures.acting c.put_to_sleep-rest.ensures.told))
    refl refl refl refl
    c.put_to_sleep-rest.ensures.marked
    c.put_to_sleep-rest.new.activity.joint_sets c.put_to_sleep-rest.ensures.standing c.self.inside.constraints.contacts.numbered c.put_to_sleep-rest.new.activity.contact_sets c.put_to_sleep-rest.ensures.contacts_standing

pub returns : goal.returns
returns c =
    let due : None ≡ mover_refusal (body_of c.self.inside.handles.slot_entries c.self.inside.activity.bodies.bodies c.args.handle) = rw c.bodies.ensures at c.in_ok-check_mover.ensures in
    rw (← c.self.view_is, c.book.ensures.entries, c.book.ensures.settled, c.in_ok-reserve.ensures.entries, c.in_ok-reserve.ensures.settled, rest_booked (c.self.inside.calls + 1) c.put_to_sleep-rest.new.activity.sets.acting.labels c.self.inside.activity.bodies.bodies c.put_to_sleep-rest.new.activity.bodies.bodies c.put_to_sleep-rest.result c.put_to_sleep-rest.ensures.told c.put_to_sleep-rest.ensures.momentum)
    (sleep_answers (the_view c.self.inside) c.args.handle c.self.inside.activity.sets.acting c.put_to_sleep-rest.new.activity.sets.acting _ c.self.invariant.whole due c.put_to_sleep-rest.ensures.acting c.put_to_sleep-rest.ensures.told)
