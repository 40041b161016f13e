use Rattle.std.proofs.Common.{◌≡◌, ◌<◌, ◌≤◌, ◌^◌, ◌+◌, ◌∙◌, length, refl, ap, arith, List, Option, None}
use Rattle.std.specs.Prelude.{option_map}
use Rattle.solver_sets.specs.Ties.{joint_movers}
use Rattle.world_core_base.proofs.JointAsleepLaws.{joint_put}
use Rattle.world_core_base.specs.Asleep.{AreJointSets, sleep_with}
use Rattle.world_core.proofs.UpJointLaws.{joined_up}
use Rattle.body_handles.proofs.LowestLemmas.{lowest-le-length}
use Rattle.body_handles.specs.SlotEntries.{lowest}
use Rattle.body_handles.specs.declared.slot_table.TheConstants.{MAX_SLOTS}
use Rattle.plain_world.specs.Joints.{IsBodyJoint, joint_at, joint_made}
use Rattle.world_rules.specs.World.{World}
use Rattle.world_rules.proofs.PartsLeft.{join_left, next_joint}
use Rattle.world_core.specs.contracts.world.WorldCore.{the_view}
use Rattle.world_core.proofs.PartLaws.{can_join_from, free_joint, join_answers, kept_of, same_handle, whole, woken_room}
use Rattle.plain_world.specs.Slots.{with_item}
use Rattle.world_core.proofs.CoreLaws.{core_joined}
use Rattle.world_core.proofs.KnownLaws.{marked_after}
use Rattle.world_core.proofs.ReadyLaws.{core_ready, ready_still}
use Rattle.world_core.proofs.WorldSourceLaws.{joints_more}
use Rattle.world_core.proofs.world.WorldCore.create_joint.Goals as goal

pub wake_planned-requires-clause-movers : goal.wake_planned-requires-clause-movers
wake_planned-requires-clause-movers c = rw c.in_ok-reserve.ensures.acting (rw (← c.self.view_is) at c.in_ok-waking.ensures.movers)

pub wake_planned-requires-clause-ready : goal.wake_planned-requires-clause-ready
wake_planned-requires-clause-ready c =
    rw (c.slot_entries.ensures, c.in_ok-reserve_one.ensures.kept)
    (ready_still c.self.inside.activity _ _ c.self.inside.constraints _ (core_ready c.self.inside c.self.invariant) refl c.in_ok-reserve.ensures.acting c.in_ok-reserve_for.ensures.joints refl
    (rw c.in_ok-reserve_for.ensures.joints (joints_more c.self.inside.activity.bodies.bodies c.self.inside.constraints.joints.joints c.self.inside.activity.joint_sets c.reserve-2.new.self c.reserve-2.ensures.same c.reserve-2.ensures.more_items c.reserve-2.ensures.more_sets c.self.invariant.standing))
    c.self.invariant.contacts_standing)

pub begin_with-requires-clause-fresh : goal.begin_with-requires-clause-fresh
begin_with-requires-clause-fresh c =
    let w : World = the_view c.self.inside in
    let slot = rw c.in_ok-reserve_one.ensures.kept at c.in_ok-handle.ensures.slot in
    let generation = rw c.in_ok-reserve_one.ensures.kept at c.in_ok-handle.ensures.generation in
    let free : lowest w.plain.joint_entries < MAX_SLOTS = rw slot at c.in_ok-handle.ensures.slot_below in
    rw (same_handle c.in_ok-handle.handle (next_joint w.plain) slot generation, c.wake_planned.ensures.acting, (rw (← c.self.view_is) at c.in_ok-waking.ensures.names), c.in_ok-reserve.ensures.acting, c.make-joint.ensures)
    (can_join_from w c.self.inside.activity.sets.acting (joint_made c.args.def.now) c.self.invariant.whole free).fresh

pub begin_with-requires-clause-awake : goal.begin_with-requires-clause-awake
begin_with-requires-clause-awake c =
    let w : World = the_view c.self.inside in
    let slot = rw c.in_ok-reserve_one.ensures.kept at c.in_ok-handle.ensures.slot in
    let free : lowest w.plain.joint_entries < MAX_SLOTS = rw slot at c.in_ok-handle.ensures.slot_below in
    rw (c.joint_movers-movers.ensures, c.bodies-2.ensures, c.wake_planned.ensures.told, c.wake_planned.ensures.acting, (rw (← c.self.view_is) at c.in_ok-waking.ensures.names), c.in_ok-reserve.ensures.acting, c.make-joint.ensures)
    (can_join_from w c.self.inside.activity.sets.acting (joint_made c.args.def.now) c.self.invariant.whole free).awake

pub begin_with-requires-clause-room : goal.begin_with-requires-clause-room
begin_with-requires-clause-room c =
    let room = c.in_ok-reserve.ensures.room_made in
    rw (c.wake_planned.ensures.room, c.wake_planned.ensures.acting, c.in_ok-reserve.ensures.acting, woken_room c.in_ok-waking.waking.names.items c.self.inside.activity.sets.acting) (omega (arith, room))

pub put-requires-clause-next : goal.put-requires-clause-next
put-requires-clause-next c =
    let w : World = the_view c.self.inside in
    let least : lowest w.plain.joint_entries ≤ length w.plain.joint_entries = lowest-le-length w.plain.joint_entries in
    let slots : length w.plain.joint_entries ≡ length w.plain.joints = (kept_of _ _ c.self.invariant.whole).joint_slots.slots in
    rw (c.in_ok-handle.ensures.slot, c.in_ok-reserve_one.ensures.kept, c.in_ok-reserve_for.ensures.joints) (omega (arith, least, slots))

pub put-requires-clause-free : goal.put-requires-clause-free
put-requires-clause-free c =
    rw (c.in_ok-handle.ensures.slot, c.in_ok-reserve_one.ensures.kept, c.in_ok-reserve_for.ensures.joints) (free_joint (the_view c.self.inside) (kept_of _ _ c.self.invariant.whole))

pub invariant_of-self-2 : goal.invariant_of-self-2
invariant_of-self-2 c =
    let w : World = the_view c.self.inside in
    let calls : c.self.inside.calls < 2 ^ 40 = rw (← c.self.view_is) at c.requires in
    let slot = rw c.in_ok-reserve_one.ensures.kept at c.in_ok-handle.ensures.slot in
    let generation = rw c.in_ok-reserve_one.ensures.kept at c.in_ok-handle.ensures.generation in
    let free : lowest w.plain.joint_entries < MAX_SLOTS = rw slot at c.in_ok-handle.ensures.slot_below in
    let is : IsBodyJoint w.plain.bodies (joint_made c.args.def.now) = rw c.bodies.ensures at c.in_ok-check_join.ensures.joint in
    let put : c.put.new.self.joints ≡ with_item w.plain.joints c.in_ok-handle.handle.slot c.make-joint.result = rw c.in_ok-reserve_for.ensures.joints at c.put.ensures in
    let none : joint_at w.plain.joints c.in_ok-handle.handle.slot ≡ None = rw slot (free_joint w (kept_of _ _ c.self.invariant.whole)) in
    let least : lowest w.plain.joint_entries ≤ length w.plain.joint_entries = lowest-le-length w.plain.joint_entries in
    let slots : length w.plain.joint_entries ≡ length w.plain.joints = (kept_of _ _ c.self.invariant.whole).joint_slots.slots in
    let le : c.in_ok-handle.handle.slot ≤ length w.plain.joints = rw slot (omega (arith, least, slots)) in
    core_joined w _ _ _ c.self.inside.activity.bodies c.mark.new.self c.in_ok-handle.handle.slot c.make-joint.result c.self.invariant
    (rw (c.in_ok-handle.ensures.given_out, c.put.ensures, c.mark.ensures.bodies, c.begin_with.ensures.acting, same_handle c.in_ok-handle.handle (next_joint w.plain) slot generation, c.joint_movers-movers.ensures, c.bodies-2.ensures, c.wake_planned.ensures.told, c.wake_planned.ensures.acting, (rw (← c.self.view_is) at c.in_ok-waking.ensures.names), c.in_ok-reserve.ensures.acting, c.in_ok-reserve_one.ensures.kept, c.in_ok-reserve_for.ensures.joints, c.make-joint.ensures)
    (whole w _ _ _ (join_left w c.self.inside.activity.sets.acting c.args.def.now (kept_of _ _ c.self.invariant.whole) c.self.invariant.whole.same calls free is)))
    refl refl none le
    (marked_after c.self.inside.activity.bodies c.wake_planned.new.activity.bodies c.mark.new.self c.wake_planned.ensures.marked c.mark.ensures.marked) c.mark.ensures.there put refl
    c.wake_planned.new.activity.joint_sets
    (let made = rw (c.joints.ensures, c.in_ok-reserve_for.ensures.joints) at c.in_ok-reserve-2.ensures.items in
    let items = c.wake_planned.ensures.items in
    let standing : AreJointSets c.wake_planned.new.activity.bodies.bodies w.plain.joints c.wake_planned.new.activity.joint_sets = rw c.in_ok-reserve_for.ensures.joints at c.wake_planned.ensures.standing in
    let up : sleep_with c.wake_planned.new.activity.bodies.bodies (joint_movers c.wake_planned.new.activity.bodies.bodies c.make-joint.result) ≡ None =
    rw (c.wake_planned.ensures.told, c.wake_planned.ensures.acting, (rw (← c.self.view_is) at c.in_ok-waking.ensures.names), c.in_ok-reserve.ensures.acting, c.make-joint.ensures)
    (joined_up w c.self.inside.activity.sets.acting (joint_made c.args.def.now) c.self.invariant.whole free) in
    rw (c.mark.ensures.bodies, put)
    (joint_put c.wake_planned.new.activity.bodies.bodies w.plain.joints c.in_ok-handle.handle.slot c.make-joint.result c.wake_planned.new.activity.joint_sets le none up (omega (arith, le, made, items)) standing))
    c.self.inside.constraints.contacts.numbered c.wake_planned.new.activity.contact_sets (rw c.mark.ensures.bodies c.wake_planned.ensures.contacts_standing)

pub returns : goal.returns
returns c =
    let w : World = the_view c.self.inside in
    let calls : c.self.inside.calls < 2 ^ 40 = rw (← c.self.view_is) at c.requires in
    let slot = rw c.in_ok-reserve_one.ensures.kept at c.in_ok-handle.ensures.slot in
    let generation = rw c.in_ok-reserve_one.ensures.kept at c.in_ok-handle.ensures.generation in
    let free : lowest w.plain.joint_entries < MAX_SLOTS = rw slot at c.in_ok-handle.ensures.slot_below in
    let is : IsBodyJoint w.plain.bodies (joint_made c.args.def.now) = rw c.bodies.ensures at c.in_ok-check_join.ensures.joint in
    let due = rw c.bodies.ensures at c.in_ok-check_join.ensures.refusal in
    rw (← c.self.view_is, c.in_ok-handle.ensures.given_out, c.put.ensures, c.mark.ensures.bodies, c.begin_with.ensures.acting, same_handle c.in_ok-handle.handle (next_joint w.plain) slot generation, c.joint_movers-movers.ensures, c.bodies-2.ensures, c.wake_planned.ensures.told, c.wake_planned.ensures.acting, (rw (← c.self.view_is) at c.in_ok-waking.ensures.names), c.in_ok-reserve.ensures.acting, c.in_ok-reserve_one.ensures.kept, c.in_ok-reserve_for.ensures.joints, c.make-joint.ensures)
    (join_answers w c.args.def.now (next_joint w.plain) _ _ due free refl (join_left w c.self.inside.activity.sets.acting c.args.def.now (kept_of _ _ c.self.invariant.whole) c.self.invariant.whole.same calls free is))
