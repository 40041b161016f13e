use Rattle.std.proofs.Common.{◌<◌, ◌^◌, [], ◌∷◌, refl}
use Rattle.world_core.specs.contracts.world.WorldCore.{the_view}
use Rattle.world_core.proofs.Whole.{HasWoken, has_woken, wake_whole}
use Rattle.world_core.proofs.CoreLaws.{core_bodies}
use Rattle.world_core.proofs.ReadyLaws.{core_ready}
use Rattle.world_core.proofs.world.WorldCore.wake.Goals as goal

pub wake_planned-requires-clause-movers : goal.wake_planned-requires-clause-movers
wake_planned-requires-clause-movers c = rw (← c.self.view_is) at c.in_ok-waking.ensures.movers

pub wake_planned-requires-clause-ready : goal.wake_planned-requires-clause-ready
wake_planned-requires-clause-ready c = rw c.slot_entries.ensures (core_ready c.self.inside c.self.invariant)

pub invariant_of-self : goal.invariant_of-self
invariant_of-self c =
    let calls : c.self.inside.calls < 2 ^ 40 = rw (← c.self.view_is) at c.requires in
    let woke : HasWoken (the_view c.self.inside) (c.args.handle.slot ∷ []) c.wake_planned.new.activity.sets.acting c.wake_planned.new.activity.bodies.bodies =
    has_woken (the_view c.self.inside) (c.args.handle.slot ∷ []) _ c.self.inside.activity.sets.acting _ _ c.self.invariant.whole (rw (← c.self.view_is) at c.in_ok-waking.ensures.names) c.wake_planned.ensures.acting c.wake_planned.ensures.told in
    core_bodies (the_view c.self.inside) _ _ _ c.self.inside.activity.bodies c.wake_planned.new.activity.bodies c.self.invariant (wake_whole (the_view c.self.inside) c.args.handle.slot c.self.inside.activity.sets.acting _ _ c.self.invariant.whole calls woke) refl refl refl refl c.wake_planned.ensures.marked
    c.wake_planned.new.activity.joint_sets c.wake_planned.ensures.standing c.self.inside.constraints.contacts.numbered c.wake_planned.new.activity.contact_sets c.wake_planned.ensures.contacts_standing
