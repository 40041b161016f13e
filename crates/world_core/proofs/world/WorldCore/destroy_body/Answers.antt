use Rattle.std.proofs.Common.{◌≡◌, ◌∙◌, ◌<◌, ◌^◌, Some, sym, ap, arith, refl, List, Option, None}
use Rattle.solver_sets.specs.Ties.{JointSlots}
use Rattle.world_rules.specs.World.{World, body_named, joints_in_slots}
use Rattle.world_rules.proofs.KeptChanges.{named_at}
use Rattle.world_core.specs.contracts.world.WorldCore.{the_view}
use Rattle.world_core.proofs.GoingLaws.{IsGoing, contacts_gone, is_going, joints_up, there_still}
use Rattle.world_core.proofs.ChangedJointLaws.{body_leaves}
use Rattle.world_core.proofs.LeavingLaws.{destroyed_quietly}
use Rattle.world_core.proofs.PartLaws.{destroy_answers, entry_fits, kept_of, whole}
use Rattle.plain_world.specs.declared.body.Body.{Body}
use Rattle.plain_world.specs.Slots.{body_at}
use Rattle.solver_sets.proofs.SlotLemmas.{item_at-set_none}
use Rattle.world_core.proofs.CoreLaws.{core_destroyed}
use Rattle.world_core.proofs.KnownLaws.{marked_after}
use Rattle.world_core.proofs.ReadyLaws.{core_ready}
use Rattle.world_core.proofs.world.WorldCore.destroy_body.Goals as goal
use Rattle.world_core.proofs.world.WorldCore.destroy_body.Goals.{After-deref-2}

pub wake_planned-requires-clause-movers : goal.wake_planned-requires-clause-movers
wake_planned-requires-clause-movers c = rw (← c.self.view_is) at c.in_ok-waking.ensures.movers

pub wake_planned-requires-clause-ready : goal.wake_planned-requires-clause-ready
wake_planned-requires-clause-ready c = rw c.slot_entries.ensures (core_ready c.self.inside c.self.invariant)

named : (c : After-deref-2) → body_named (the_view c.self.inside).plain c.args.handle ≡ Some c.in-Some.body.now
named c = rw (← c.bodies.ensures) (sym c.in-Some.ensures)

going : (c : After-deref-2) → IsGoing (the_view c.self.inside) c.self.inside.activity.sets.acting c.wake_planned.new.activity.sets.acting c.args.handle c.in-Some.body.now c.is_mover-mover.result c.deref-2.result.now
going c =
    is_going (the_view c.self.inside) c.self.inside.activity.sets.acting _ c.args.handle c.in-Some.body.now _ _ c.in_ok-waking.waking.names.items c.self.invariant.whole (named c) c.is_mover-mover.ensures (c.deref-2.ensures.value ∙ rw (← c.self.view_is) at c.in_ok-ties.ensures.ties) (rw (← c.self.view_is) at c.in_ok-waking.ensures.names)
    c.wake_planned.ensures.acting

pub leave-requires-clause-can : goal.leave-requires-clause-can
leave-requires-clause-can c = (going c).can

pub leave-requires-clause-awake : goal.leave-requires-clause-awake
leave-requires-clause-awake c = (going c).awake

pub leave-requires-clause-alone : goal.leave-requires-clause-alone
leave-requires-clause-alone c = (going c).alone

pub clear-requires : goal.clear-requires
clear-requires c = record { slot = there_still (the_view c.self.inside) c.args.handle c.in-Some.body.now _ _ (rw (← c.bodies.ensures) (sym c.in-Some.ensures)) c.wake_planned.ensures.told }

pub book-requires-clause-fits : goal.book-requires-clause-fits
book-requires-clause-fits c =
    entry_fits (the_view c.self.inside) _ c.reserve.new.self _ c.self.invariant.whole c.in_ok-reserve.ensures.entries c.in_ok-reserve.ensures.settled (omega (arith, c.loss_of.ensures.small_x)) (omega (arith, c.loss_of.ensures.small_y))

pub invariant_of-self-2 : goal.invariant_of-self-2
invariant_of-self-2 c =
    let w : World = the_view c.self.inside in
    let left = (goal.at.invariant_of-self-2 c).After-deref-2 in
    let is_named : body_named w.plain c.args.handle ≡ Some c.in-Some.body.now = named left in
    let leaving : IsGoing w c.self.inside.activity.sets.acting c.wake_planned.new.activity.sets.acting c.args.handle c.in-Some.body.now c.is_mover-mover.result c.deref-2.result.now = going left in
    let calls : c.self.inside.calls < 2 ^ 40 = rw (← c.self.view_is) at c.requires in
    let slot_entries = ap (λ (s : JointSlots). s.slot_entries) c.drop_joints.ensures.gone in
    let joints = ap (λ (s : JointSlots). s.joints) c.drop_joints.ensures.gone in
    let none : body_at c.clear.new.self.bodies c.args.handle.slot ≡ None = ap (λ (bs : List (Option Body)). body_at bs c.args.handle.slot) c.clear.ensures.bodies ∙ item_at-set_none c.wake_planned.new.activity.bodies.bodies c.args.handle.slot in
    core_destroyed w _ _ _ c.self.inside.activity.bodies c.clear.new.self c.args.handle.slot c.in-Some.body.now c.self.invariant
    (rw (c.book.ensures.entries, c.book.ensures.settled, c.loss_of.ensures.x, c.loss_of.ensures.y, c.mover_momentum-p.ensures, c.in_ok-reserve.ensures.entries, c.in_ok-reserve.ensures.settled, c.clear.ensures.bodies, slot_entries, joints, c.drop_of_body.ensures.contacts, c.remove.ensures.taken_back, c.wake_planned.ensures.told, leaving.bodies, c.leave.ensures.acting, leaving.gone)
    (whole w _ _ _ (destroyed_quietly w c.self.inside.activity.sets.acting c.args.handle c.in-Some.body.now (kept_of _ _ c.self.invariant.whole) c.self.invariant.whole.same calls is_named)))
    refl refl (named_at w.plain c.args.handle c.in-Some.body.now is_named) none
    (marked_after c.self.inside.activity.bodies c.wake_planned.new.activity.bodies c.clear.new.self c.wake_planned.ensures.marked c.clear.ensures.marked) joints c.drop_of_body.ensures.contacts
    c.wake_planned.new.activity.joint_sets
    (rw (c.clear.ensures.bodies, joints)
    (body_leaves c.wake_planned.new.activity.bodies.bodies c.args.handle.slot (joints_in_slots w.plain) c.wake_planned.new.activity.joint_sets
    (joints_up leaving c.self.invariant.whole c.wake_planned.new.activity.bodies.bodies c.wake_planned.ensures.told) c.wake_planned.ensures.standing))
    c.drop_of_body.new.self.numbered c.wake_planned.new.activity.contact_sets
    (contacts_gone leaving c.self.invariant.whole c.wake_planned.new.activity.bodies.bodies c.wake_planned.ensures.told
    c.clear.new.self.bodies None c.clear.ensures.bodies c.self.inside.constraints.contacts.numbered c.drop_of_body.new.self.numbered c.drop_of_body.new.self.made c.drop_of_body.new.self.gone c.wake_planned.new.activity.contact_sets c.know_numbered.ensures.numbered (rw c.drop_of_body.ensures.contacts at c.know_numbered-2.ensures.numbered)
    c.drop_of_body.ensures.turnover c.drop_of_body.ensures.none c.wake_planned.ensures.contacts_standing)

pub returns : goal.returns
returns c =
    let w : World = the_view c.self.inside in
    let left = (goal.at.returns c).After-deref-2 in
    let is_named : body_named w.plain c.args.handle ≡ Some c.in-Some.body.now = named left in
    let leaving : IsGoing w c.self.inside.activity.sets.acting c.wake_planned.new.activity.sets.acting c.args.handle c.in-Some.body.now c.is_mover-mover.result c.deref-2.result.now = going left in
    let calls : c.self.inside.calls < 2 ^ 40 = rw (← c.self.view_is) at c.requires in
    let slot_entries = ap (λ (s : JointSlots). s.slot_entries) c.drop_joints.ensures.gone in
    let joints = ap (λ (s : JointSlots). s.joints) c.drop_joints.ensures.gone in
    rw (← c.self.view_is)
    (destroy_answers w c.args.handle c.in-Some.body.now _ c.leave.new.sets.acting is_named
    (rw (c.book.ensures.entries, c.book.ensures.settled, c.loss_of.ensures.x, c.loss_of.ensures.y, c.mover_momentum-p.ensures, c.in_ok-reserve.ensures.entries, c.in_ok-reserve.ensures.settled, c.clear.ensures.bodies, slot_entries, joints, c.drop_of_body.ensures.contacts, c.remove.ensures.taken_back, c.wake_planned.ensures.told, leaving.bodies, c.leave.ensures.acting, leaving.gone)
    (destroyed_quietly w c.self.inside.activity.sets.acting c.args.handle c.in-Some.body.now (kept_of _ _ c.self.invariant.whole) c.self.invariant.whole.same calls is_named)))
