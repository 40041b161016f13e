use Rattle.std.proofs.Common.{◌≡◌, ◌<◌, ◌^◌, [], ◌∷◌, Ok, sym, arith, refl}
use Rattle.std.proofs.lemmas.Int.{ints}
use Rattle.plain_world.specs.Slots as slots
use Rattle.world_rules.specs.Apply.{pushed}
use Rattle.world_rules.proofs.SoundLaws.{kept_sound}
use Rattle.world_core.specs.contracts.world.WorldCore.{the_view}
use Rattle.world_core.proofs.Whole.{HasWoken, has_woken, push_whole}
use Rattle.world_core_base.proofs.ContactAsleepLaws.{contacts_alike}
use Rattle.world_core_base.proofs.AsleepLaws.{same_long}
use Rattle.world_core_base.proofs.JointAsleepLaws.{joints_alike}
use Rattle.world_core.proofs.CoreLaws.{core_bodies}
use Rattle.world_core.proofs.PartLaws.{entry_fits}
use Rattle.world_core.proofs.KnownLaws.{marked_after}
use Rattle.world_core.proofs.ReadyLaws.{core_ready}
use Rattle.world_core.proofs.world.WorldCore.push.Goals as goal

pub wake_planned-requires-clause-movers : goal.wake_planned-requires-clause-movers
wake_planned-requires-clause-movers c = rw (← c.self.view_is) at c.in_ok-waking.ensures.movers

pub wake_planned-requires-clause-ready : goal.wake_planned-requires-clause-ready
wake_planned-requires-clause-ready c = rw c.slot_entries.ensures (core_ready c.self.inside c.self.invariant)

pub momenta_after-requires : goal.momenta_after-requires
momenta_after-requires c = rw c.bodies.ensures (kept_sound _ c.self.invariant.whole.sound).bodies

pub change-requires-clause-slot : goal.change-requires-clause-slot
change-requires-clause-slot c = rw (c.wake_planned.ensures.count, ← c.bodies.ensures) c.in_ok-momenta.ensures.present

pub book-requires-clause-fits : goal.book-requires-clause-fits
book-requires-clause-fits c =
    entry_fits (the_view c.self.inside) _ c.reserve.new.self _ c.self.invariant.whole c.in_ok-reserve.ensures.entries c.in_ok-reserve.ensures.settled
    (rw c.gain_of.ensures.x (omega (arith, ints))) (rw c.gain_of.ensures.y (omega (arith, ints)))

pub invariant_of-self-2 : goal.invariant_of-self-2
invariant_of-self-2 c =
    let calls : c.self.inside.calls < 2 ^ 40 = rw (← c.self.view_is) at c.requires in
    let due : pushed (slots.body_of c.self.inside.handles.slot_entries c.self.inside.activity.bodies.bodies c.args.handle) c.args.by c.args.offset ≡ Ok c.in_ok-momenta.momenta = rw (← c.bodies.ensures) (sym c.in_ok-momenta.ensures.value) in
    let woke : HasWoken (the_view c.self.inside) (c.args.handle.slot ∷ []) c.wake_planned.new.activity.sets.acting c.wake_planned.new.activity.bodies.bodies =
    has_woken (the_view c.self.inside) (c.args.handle.slot ∷ []) _ c.self.inside.activity.sets.acting _ _ c.self.invariant.whole (rw (← c.self.view_is) at c.in_ok-waking.ensures.names) c.wake_planned.ensures.acting c.wake_planned.ensures.told in
    core_bodies (the_view c.self.inside) _ _ _ c.self.inside.activity.bodies c.change.new.self c.self.invariant
    (rw (c.change.ensures.bodies, c.book.ensures.entries, c.book.ensures.settled, c.in_ok-reserve.ensures.entries, c.in_ok-reserve.ensures.settled, c.gain_of.ensures.x, c.gain_of.ensures.y)
    (push_whole (the_view c.self.inside) c.args.handle c.args.by c.args.offset c.in_ok-momenta.momenta c.self.inside.activity.sets.acting _ _ c.self.invariant.whole calls woke due))
    refl refl refl refl
    (marked_after c.self.inside.activity.bodies c.wake_planned.new.activity.bodies c.change.new.self c.wake_planned.ensures.marked c.change.ensures.marked)
    c.wake_planned.new.activity.joint_sets (joints_alike c.wake_planned.new.activity.bodies.bodies c.change.new.self.bodies c.self.inside.constraints.joints.joints c.wake_planned.new.activity.joint_sets (same_long c.wake_planned.new.activity.bodies.bodies c.change.new.self.bodies c.args.handle.slot _ c.change.ensures.bodies) c.change.ensures.asleep c.wake_planned.ensures.standing)
    c.self.inside.constraints.contacts.numbered c.wake_planned.new.activity.contact_sets (contacts_alike c.wake_planned.new.activity.bodies.bodies c.change.new.self.bodies c.self.inside.constraints.contacts.numbered c.wake_planned.new.activity.contact_sets (same_long c.wake_planned.new.activity.bodies.bodies c.change.new.self.bodies c.args.handle.slot _ c.change.ensures.bodies) c.change.ensures.asleep c.wake_planned.ensures.contacts_standing)
