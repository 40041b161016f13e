use Rattle.std.proofs.Common.{◌≡◌, ◌∙◌, ◌<◌, ◌^◌, length, Some, sym, arith, refl}
use Rattle.std.specs.Prelude.{option_map}
use Rattle.std.proofs.lemmas.List.{length-set}
use Rattle.plain_world.specs.Changes.{changed_at, disabled_body}
use Rattle.plain_world.specs.Joints.{idle_joints, joint_at}
use Rattle.plain_world.specs.Slots.{body_at}
use Rattle.world_core.proofs.ChangedJointLaws.{body_changed, disabled_off, idle_ends, set_beside}
use Rattle.world_core.proofs.UpJointLaws.{off_up}
use Rattle.world_rules.specs.World.{World, body_named}
use Rattle.world_rules.proofs.KeptChanges.{named_at}
use Rattle.world_core.specs.contracts.world.WorldCore.{the_view}
use Rattle.world_core.proofs.GoingLaws.{IsGoing, contacts_gone, is_going, joints_up, there_still}
use Rattle.world_core.proofs.LeavingLaws.{disabled_quietly}
use Rattle.world_core.proofs.PartLaws.{disable_answers, entry_fits, kept_of, whole}
use Rattle.world_core.proofs.CoreLaws.{core_disabled}
use Rattle.world_core.proofs.KnownLaws.{marked_after}
use Rattle.world_core.proofs.ReadyLaws.{core_ready}
use Rattle.world_core.proofs.world.WorldCore.disable.Goals as goal
use Rattle.world_core.proofs.world.WorldCore.disable.Goals.{After-deref-2}

pub wake_planned-requires-clause-movers : goal.wake_planned-requires-clause-movers
wake_planned-requires-clause-movers c = rw (← c.self.view_is) at c.in_ok-waking.ensures.movers

pub wake_planned-requires-clause-ready : goal.wake_planned-requires-clause-ready
wake_planned-requires-clause-ready c = rw c.slot_entries.ensures (core_ready c.self.inside c.self.invariant)

named : (c : After-deref-2) → body_named (the_view c.self.inside).plain c.args.handle ≡ Some c.in-Some.body.now
named c = rw (← c.bodies.ensures) (sym c.in-Some.ensures)

going : (c : After-deref-2) → IsGoing (the_view c.self.inside) c.self.inside.activity.sets.acting c.wake_planned.new.activity.sets.acting c.args.handle c.in-Some.body.now c.is_mover-mover.result c.deref-2.result.now
going c =
    is_going (the_view c.self.inside) c.self.inside.activity.sets.acting _ c.args.handle c.in-Some.body.now _ _ c.in_ok-waking.waking.names.items c.self.invariant.whole (named c) c.is_mover-mover.ensures (c.deref-2.ensures.value ∙ rw (← c.self.view_is) at c.in_ok-ties.ensures.ties) (rw (← c.self.view_is) at c.in_ok-waking.ensures.names)
    c.wake_planned.ensures.acting

pub leave-requires-clause-can : goal.leave-requires-clause-can
leave-requires-clause-can c = (going c).can

pub leave-requires-clause-awake : goal.leave-requires-clause-awake
leave-requires-clause-awake c = (going c).awake

pub leave-requires-clause-alone : goal.leave-requires-clause-alone
leave-requires-clause-alone c = (going c).alone

pub disable-requires : goal.disable-requires
disable-requires c = record { slot = there_still (the_view c.self.inside) c.args.handle c.in-Some.body.now _ _ (rw (← c.bodies.ensures) (sym c.in-Some.ensures)) c.wake_planned.ensures.told }

pub book-requires-clause-fits : goal.book-requires-clause-fits
book-requires-clause-fits c =
    entry_fits (the_view c.self.inside) _ c.reserve.new.self _ c.self.invariant.whole c.in_ok-reserve.ensures.entries c.in_ok-reserve.ensures.settled (omega (arith, c.loss_of.ensures.small_x)) (omega (arith, c.loss_of.ensures.small_y))

pub invariant_of-self-2 : goal.invariant_of-self-2
invariant_of-self-2 c =
    let w : World = the_view c.self.inside in
    let left = (goal.at.invariant_of-self-2 c).After-deref-2 in
    let is_named : body_named w.plain c.args.handle ≡ Some c.in-Some.body.now = named left in
    let leaving : IsGoing w c.self.inside.activity.sets.acting c.wake_planned.new.activity.sets.acting c.args.handle c.in-Some.body.now c.is_mover-mover.result c.deref-2.result.now = going left in
    let calls : c.self.inside.calls < 2 ^ 40 = rw (← c.self.view_is) at c.requires in
    core_disabled w _ _ _ c.self.inside.activity.bodies c.disable.new.self c.args.handle.slot c.in-Some.body.now c.wake_planned.new.activity.bodies.bodies c.self.invariant
    (rw (c.book.ensures.entries, c.book.ensures.settled, c.loss_of.ensures.x, c.loss_of.ensures.y, c.mover_momentum-p.ensures, c.in_ok-reserve.ensures.entries, c.in_ok-reserve.ensures.settled, c.disable.ensures.bodies, c.idle.ensures, c.drop_of_body.ensures.contacts, c.wake_planned.ensures.told, leaving.bodies, c.leave.ensures.acting, leaving.gone)
    (whole w _ _ _ (disabled_quietly w c.self.inside.activity.sets.acting c.args.handle c.in-Some.body.now (kept_of _ _ c.self.invariant.whole) c.self.invariant.whole.same calls is_named)))
    refl refl (named_at w.plain c.args.handle c.in-Some.body.now is_named) c.if-not-body.false c.disable.ensures.bodies
    (marked_after c.self.inside.activity.bodies c.wake_planned.new.activity.bodies c.disable.new.self c.wake_planned.ensures.marked c.disable.ensures.marked) c.idle.ensures c.drop_of_body.ensures.contacts
    c.wake_planned.new.activity.joint_sets
    (let slot = c.args.handle.slot in
    let woke = c.wake_planned.new.activity.bodies.bodies in
    let there : slot < length woke = there_still w c.args.handle c.in-Some.body.now _ _ (rw (← c.bodies.ensures) (sym c.in-Some.ensures)) c.wake_planned.ensures.told in
    let long = length-set woke slot (option_map disabled_body (body_at woke slot)) in
    rw (c.disable.ensures.bodies, c.idle.ensures)
    (body_changed woke (changed_at disabled_body woke slot) w.plain.joints (idle_joints slot w.plain.joints) slot c.wake_planned.new.activity.joint_sets (omega (arith, long)) (idle_ends slot w.plain.joints) (set_beside woke slot (option_map disabled_body (body_at woke slot)))
    (joints_up leaving c.self.invariant.whole c.wake_planned.new.activity.bodies.bodies c.wake_planned.ensures.told)
    (λ k own. off_up (changed_at disabled_body woke slot) slot (joint_at w.plain.joints k) (disabled_off woke slot there) own) c.wake_planned.ensures.standing))
    c.drop_of_body.new.self.numbered c.wake_planned.new.activity.contact_sets
    (contacts_gone leaving c.self.invariant.whole c.wake_planned.new.activity.bodies.bodies c.wake_planned.ensures.told
    c.disable.new.self.bodies (option_map disabled_body (body_at c.wake_planned.new.activity.bodies.bodies c.args.handle.slot)) c.disable.ensures.bodies c.self.inside.constraints.contacts.numbered c.drop_of_body.new.self.numbered c.drop_of_body.new.self.made c.drop_of_body.new.self.gone c.wake_planned.new.activity.contact_sets c.know_numbered.ensures.numbered (rw c.drop_of_body.ensures.contacts at c.know_numbered-2.ensures.numbered)
    c.drop_of_body.ensures.turnover c.drop_of_body.ensures.none c.wake_planned.ensures.contacts_standing)

pub returns : goal.returns
returns c =
    let w : World = the_view c.self.inside in
    let left = (goal.at.returns c).After-deref-2 in
    let is_named : body_named w.plain c.args.handle ≡ Some c.in-Some.body.now = named left in
    let leaving : IsGoing w c.self.inside.activity.sets.acting c.wake_planned.new.activity.sets.acting c.args.handle c.in-Some.body.now c.is_mover-mover.result c.deref-2.result.now = going left in
    let calls : c.self.inside.calls < 2 ^ 40 = rw (← c.self.view_is) at c.requires in
    rw (← c.self.view_is)
    (disable_answers w c.args.handle c.in-Some.body.now _ c.leave.new.sets.acting is_named c.if-not-body.false
    (rw (c.book.ensures.entries, c.book.ensures.settled, c.loss_of.ensures.x, c.loss_of.ensures.y, c.mover_momentum-p.ensures, c.in_ok-reserve.ensures.entries, c.in_ok-reserve.ensures.settled, c.disable.ensures.bodies, c.idle.ensures, c.drop_of_body.ensures.contacts, c.wake_planned.ensures.told, leaving.bodies, c.leave.ensures.acting, leaving.gone)
    (disabled_quietly w c.self.inside.activity.sets.acting c.args.handle c.in-Some.body.now (kept_of _ _ c.self.invariant.whole) c.self.invariant.whole.same calls is_named)))
