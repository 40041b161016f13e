use Rattle.std.proofs.Common.{refl}
use Rattle.solver_sets.specs.Beside.{stirred_by}
use Rattle.world_rules.specs.World.{World}
use Rattle.world_core.specs.contracts.world.WorldCore.{the_view}
use Rattle.world_core.proofs.Whole.{HasWoken, changed_whole, has_woken}
use Rattle.world_core_base.proofs.ContactAsleepLaws.{contacts_alike}
use Rattle.world_core_base.proofs.AsleepLaws.{same_long}
use Rattle.world_core_base.proofs.JointAsleepLaws.{joints_alike}
use Rattle.world_core.proofs.CoreLaws.{core_bodies}
use Rattle.world_core.proofs.KnownLaws.{marked_after}
use Rattle.world_core.proofs.ReadyLaws.{core_ready}
use Rattle.world_core.proofs.world.WorldCore.change_stirred.Goals as goal

pub wake_planned-requires-clause-movers : goal.wake_planned-requires-clause-movers
wake_planned-requires-clause-movers g c = rw (← c.self.view_is) at c.in_ok-waking.ensures.movers

pub wake_planned-requires-clause-ready : goal.wake_planned-requires-clause-ready
wake_planned-requires-clause-ready g c = rw c.slot_entries.ensures (core_ready c.self.inside c.self.invariant)

pub change-requires-clause-slot : goal.change-requires-clause-slot
change-requires-clause-slot g c = rw c.wake_planned.ensures.count (rw (← c.self.view_is) at c.requires.present)

pub change-requires-clause-fits : goal.change-requires-clause-fits
change-requires-clause-fits g c =
    let w : World = the_view c.self.inside in
    let woke : HasWoken w (stirred_by w.plain.bodies w.plain.joints w.plain.contacts c.args.handle.slot) c.wake_planned.new.activity.sets.acting c.wake_planned.new.activity.bodies.bodies =
    has_woken w _ _ c.self.inside.activity.sets.acting _ _ c.self.invariant.whole (rw (← c.self.view_is) at c.in_ok-waking.ensures.names) c.wake_planned.ensures.acting c.wake_planned.ensures.told in
    rw woke.bodies (rw (← c.self.view_is) at c.requires.fits)

pub invariant_of-self : goal.invariant_of-self
invariant_of-self g c =
    let w : World = the_view c.self.inside in
    let woke : HasWoken w (stirred_by w.plain.bodies w.plain.joints w.plain.contacts c.args.handle.slot) c.wake_planned.new.activity.sets.acting c.wake_planned.new.activity.bodies.bodies =
    has_woken w _ _ c.self.inside.activity.sets.acting _ _ c.self.invariant.whole (rw (← c.self.view_is) at c.in_ok-waking.ensures.names) c.wake_planned.ensures.acting c.wake_planned.ensures.told in
    core_bodies w _ _ _ c.self.inside.activity.bodies c.change.new.self c.self.invariant
    (rw c.change.ensures.bodies (changed_whole w c.args.handle (g.C.BodyChange.after c.args.change.now) c.self.inside.activity.sets.acting _ _ c.self.invariant.whole woke (rw (← c.self.view_is) at c.requires.may)))
    refl refl refl refl
    (marked_after c.self.inside.activity.bodies c.wake_planned.new.activity.bodies c.change.new.self c.wake_planned.ensures.marked c.change.ensures.marked)
    c.wake_planned.new.activity.joint_sets (joints_alike c.wake_planned.new.activity.bodies.bodies c.change.new.self.bodies c.self.inside.constraints.joints.joints c.wake_planned.new.activity.joint_sets (same_long c.wake_planned.new.activity.bodies.bodies c.change.new.self.bodies c.args.handle.slot _ c.change.ensures.bodies) c.change.ensures.asleep c.wake_planned.ensures.standing)
    c.self.inside.constraints.contacts.numbered c.wake_planned.new.activity.contact_sets (contacts_alike c.wake_planned.new.activity.bodies.bodies c.change.new.self.bodies c.self.inside.constraints.contacts.numbered c.wake_planned.new.activity.contact_sets (same_long c.wake_planned.new.activity.bodies.bodies c.change.new.self.bodies c.args.handle.slot _ c.change.ensures.bodies) c.change.ensures.asleep c.wake_planned.ensures.contacts_standing)
