use Rattle.std.proofs.Common.{◌≡◌, ◌<◌, ◌^◌, ◌∙◌, Option, None, Some, ap, sym, refl}
use Rattle.solver_sets.specs.Ties.{joint_movers}
use Rattle.plain_world.specs.declared.joint.BodyJoint.{BodyJoint}
use Rattle.plain_world.specs.Joints.{joint_at}
use Rattle.world_core_base.specs.Asleep.{movers_of_joint, sleep_with}
use Rattle.world_core.proofs.ChangedJointLaws.{joint_leaves}
use Rattle.world_core.proofs.UpJointLaws.{unjoined_up}
use Rattle.world_rules.specs.World.{World}
use Rattle.world_rules.proofs.PartsLeft.{unjoin_left}
use Rattle.world_core.specs.contracts.world.WorldCore.{the_view}
use Rattle.world_core.proofs.PartLaws.{can_unjoin_from, joint_below, kept_of, unjoin_answers, whole}
use Rattle.world_rules.proofs.KeptJoints.{live_joint}
use Rattle.world_core.proofs.CoreLaws.{core_unjoined}
use Rattle.world_core.proofs.KnownLaws.{marked_after}
use Rattle.world_core.proofs.ReadyLaws.{core_ready}
use Rattle.world_core.proofs.world.WorldCore.destroy_joint.Goals as goal

pub wake_planned-requires-clause-movers : goal.wake_planned-requires-clause-movers
wake_planned-requires-clause-movers c = rw (← c.self.view_is) at c.in_ok-waking.ensures.movers

pub wake_planned-requires-clause-ready : goal.wake_planned-requires-clause-ready
wake_planned-requires-clause-ready c = rw c.slot_entries.ensures (core_ready c.self.inside c.self.invariant)

pub end_with-requires-clause-there : goal.end_with-requires-clause-there
end_with-requires-clause-there c =
    rw (c.joint_movers-movers.ensures, c.bodies.ensures, c.wake_planned.ensures.told, c.wake_planned.ensures.acting, (rw (← c.self.view_is) at c.in_ok-waking.ensures.names))
    (can_unjoin_from (the_view c.self.inside) c.self.inside.activity.sets.acting c.args.handle c.in-Some.joint c.self.invariant.whole (sym c.in-Some.ensures)).there

pub end_with-requires-clause-awake : goal.end_with-requires-clause-awake
end_with-requires-clause-awake c =
    rw (c.joint_movers-movers.ensures, c.bodies.ensures, c.wake_planned.ensures.told, c.wake_planned.ensures.acting, (rw (← c.self.view_is) at c.in_ok-waking.ensures.names))
    (can_unjoin_from (the_view c.self.inside) c.self.inside.activity.sets.acting c.args.handle c.in-Some.joint c.self.invariant.whole (sym c.in-Some.ensures)).awake

pub clear-requires : goal.clear-requires
clear-requires c = joint_below (the_view c.self.inside) c.args.handle c.in-Some.joint (kept_of _ _ c.self.invariant.whole) (sym c.in-Some.ensures)

pub invariant_of-self : goal.invariant_of-self
invariant_of-self c =
    let w : World = the_view c.self.inside in
    let calls : c.self.inside.calls < 2 ^ 40 = rw (← c.self.view_is) at c.requires in
    core_unjoined w _ _ _ c.self.inside.activity.bodies c.mark.new.self c.args.handle.slot c.in-Some.joint c.self.invariant
    (rw (c.clear.ensures, c.mark.ensures.bodies, c.remove.ensures.taken_back, c.end_with.ensures.acting, c.joint_movers-movers.ensures, c.bodies.ensures, c.wake_planned.ensures.told, c.wake_planned.ensures.acting, (rw (← c.self.view_is) at c.in_ok-waking.ensures.names))
    (whole w _ _ _ (unjoin_left w c.self.inside.activity.sets.acting c.args.handle c.in-Some.joint (kept_of _ _ c.self.invariant.whole) c.self.invariant.whole.same calls (sym c.in-Some.ensures))))
    refl refl (live_joint w c.args.handle c.in-Some.joint (sym c.in-Some.ensures)).1
    (marked_after c.self.inside.activity.bodies c.wake_planned.new.activity.bodies c.mark.new.self c.wake_planned.ensures.marked c.mark.ensures.marked) c.mark.ensures.there c.clear.ensures refl
    c.wake_planned.new.activity.joint_sets
    (let woke = c.wake_planned.new.activity.bodies.bodies in
    let at : joint_at w.plain.joints c.args.handle.slot ≡ Some c.in-Some.joint = (live_joint w c.args.handle c.in-Some.joint (sym c.in-Some.ensures)).1 in
    let up : sleep_with woke (joint_movers woke c.in-Some.joint) ≡ None =
    rw (c.wake_planned.ensures.told, c.wake_planned.ensures.acting, (rw (← c.self.view_is) at c.in_ok-waking.ensures.names))
    (unjoined_up w c.self.inside.activity.sets.acting c.args.handle c.in-Some.joint c.self.invariant.whole (sym c.in-Some.ensures)) in
    rw (c.mark.ensures.bodies, c.clear.ensures)
    (joint_leaves woke w.plain.joints c.args.handle.slot c.wake_planned.new.activity.joint_sets (ap (λ (o : Option BodyJoint). sleep_with woke (movers_of_joint woke o)) at ∙ up) c.wake_planned.ensures.standing))
    c.self.inside.constraints.contacts.numbered c.wake_planned.new.activity.contact_sets (rw c.mark.ensures.bodies c.wake_planned.ensures.contacts_standing)

pub returns : goal.returns
returns c =
    let w : World = the_view c.self.inside in
    let calls : c.self.inside.calls < 2 ^ 40 = rw (← c.self.view_is) at c.requires in
    rw (← c.self.view_is, c.clear.ensures, c.mark.ensures.bodies, c.remove.ensures.taken_back, c.end_with.ensures.acting, c.joint_movers-movers.ensures, c.bodies.ensures, c.wake_planned.ensures.told, c.wake_planned.ensures.acting, (rw (← c.self.view_is) at c.in_ok-waking.ensures.names))
    (unjoin_answers w c.args.handle c.in-Some.joint _ _ (sym c.in-Some.ensures) (unjoin_left w c.self.inside.activity.sets.acting c.args.handle c.in-Some.joint (kept_of _ _ c.self.invariant.whole) c.self.invariant.whole.same calls (sym c.in-Some.ensures)))
