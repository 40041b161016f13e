use Rattle.std.proofs.Common.{◌≡◌, ◌∙◌, ℕ, ◌<◌, ◌^◌, false, All, length, List, Option, Some, ap, sym, arith, refl}
use Rattle.std.specs.Prelude.{option_map}
use Rattle.std.proofs.lemmas.List.{length-set}
use Rattle.body_handles.specs.declared.handle.Handle.{Handle}
use Rattle.plain_world.specs.declared.body.Body.{Body}
use Rattle.plain_world.specs.Changes.{changed_at, enabled_body}
use Rattle.plain_world.specs.Joints.{joint_at}
use Rattle.plain_world.specs.Slots.{body_at}
use Rattle.solver_sets.specs.Beside.{joined_to}
use Rattle.world_core_base.specs.Asleep.{AreNamedAsleep}
use Rattle.world_rules.proofs.KeptChanges.{named_at}
use Rattle.world_core.proofs.ChangedJointLaws.{changed_beside, changed_can_follow, enabled_named, set_beside}
use Rattle.world_core.proofs.UpJointLaws.{off_up, woken_disabled, woken_named}
use Rattle.world_rules.specs.World.{World, body_named}
use Rattle.world_rules.proofs.KeptMade.{come_ties}
use Rattle.world_rules.proofs.PartsLeft.{enable_left, enabled_left}
use Rattle.world_rules.proofs.ToldLaws.{length_told}
use Rattle.world_core.specs.contracts.world.WorldCore.{the_view}
use Rattle.world_core.proofs.EnableLaws.{body_below, can_enable_from}
use Rattle.world_core.proofs.PartLaws.{enable_answers, kept_of, whole, woken_room}
use Rattle.world_core.proofs.CoreLaws.{core_bodies}
use Rattle.world_core.proofs.KnownLaws.{marked_after}
use Rattle.world_core.proofs.ReadyLaws.{core_ready, ready_still}
use Rattle.solver_sets.specs.Ties.{is_enabled, is_enabled_in}
use Rattle.world_core.proofs.UpContactLaws.{contacts_stay}
use Rattle.world_core.proofs.Whole.{HasWoken, has_woken}
use Rattle.world_rules.proofs.ActingLaws.{waking_kept}
use Rattle.world_rules.specs.Sound.{HasBodies}
use Rattle.world_core.proofs.world.WorldCore.enable.Goals as goal

pub wake_planned-requires-clause-movers : goal.wake_planned-requires-clause-movers
wake_planned-requires-clause-movers c = rw c.in_ok-reserve.ensures.acting (rw (← c.self.view_is) at c.in_ok-waking.ensures.movers)

pub wake_planned-requires-clause-ready : goal.wake_planned-requires-clause-ready
wake_planned-requires-clause-ready c =
    rw c.slot_entries.ensures
    (ready_still c.self.inside.activity _ _ c.self.inside.constraints _ (core_ready c.self.inside c.self.invariant) refl c.in_ok-reserve.ensures.acting refl refl c.self.invariant.standing c.self.invariant.contacts_standing)

pub invariant_of-self : goal.invariant_of-self
invariant_of-self c =
    let w : World = the_view c.self.inside in
    let calls : c.self.inside.calls < 2 ^ 40 = rw (← c.self.view_is) at c.requires in
    record { whole = whole w _ _ _ (enabled_left w c.self.inside.activity.sets.acting c.args.handle c.in-Some.body.now (kept_of _ _ c.self.invariant.whole) c.self.invariant.whole.same calls c.if-body.true); known = c.self.invariant.known; standing = c.self.invariant.standing; contacts_standing = c.self.invariant.contacts_standing }

pub enable-requires-clause-slot : goal.enable-requires-clause-slot
enable-requires-clause-slot c =
    let w : World = the_view c.self.inside in
    let named : body_named w.plain c.args.handle ≡ Some c.in-Some.body.now = rw (← c.bodies.ensures) (sym c.in-Some.ensures) in
    rw (c.wake_planned.ensures.told, length_told c.wake_planned.new.activity.sets.acting.labels c.self.inside.activity.bodies.bodies) (body_below w c.args.handle c.in-Some.body.now named)

pub enable-requires-clause-disabled : goal.enable-requires-clause-disabled
enable-requires-clause-disabled c =
    let w : World = the_view c.self.inside in
    let named : body_named w.plain c.args.handle ≡ Some c.in-Some.body.now = rw (← c.bodies.ensures) (sym c.in-Some.ensures) in
    rw (c.wake_planned.ensures.told, c.wake_planned.ensures.acting, c.in_ok-reserve.ensures.acting, (rw (← c.self.view_is) at c.in_ok-waking.ensures.names), c.deref-2.ensures.value, c.in_ok-joined.ensures.slots, c.bodies-2.ensures, c.joints.ensures)
    (can_enable_from w c.self.inside.activity.sets.acting c.args.handle c.in-Some.body.now c.self.invariant.whole named c.if-body.false).off

-- the slots of the movers at the other ends of its joints, whose islands were woken
abbrev joined_at : World → Handle → List ℕ
joined_at w h = joined_to w.plain.bodies w.plain.joints h.slot

pub follow-requires-clause-can : goal.follow-requires-clause-can
follow-requires-clause-can c =
    let w : World = the_view c.self.inside in
    let slot = c.args.handle.slot in
    let woke = c.wake_planned.new.activity.bodies.bodies in
    let named : body_named w.plain c.args.handle ≡ Some c.in-Some.body.now = rw (← c.bodies.ensures) (sym c.in-Some.ensures) in
    let there : slot < length woke = rw (c.wake_planned.ensures.told, length_told c.wake_planned.new.activity.sets.acting.labels c.self.inside.activity.bodies.bodies) (body_below w c.args.handle c.in-Some.body.now named) in
    let at : body_at woke slot ≡ Some c.in-Some.body.now =
    rw (c.wake_planned.ensures.told, c.wake_planned.ensures.acting, c.in_ok-reserve.ensures.acting, (rw (← c.self.view_is) at c.in_ok-waking.ensures.names), c.deref-2.ensures.value, c.in_ok-joined.ensures.slots, c.bodies-2.ensures, c.joints.ensures)
    (woken_disabled w c.self.inside.activity.sets.acting (joined_at w c.args.handle) slot c.in-Some.body.now c.self.invariant.whole (named_at w.plain c.args.handle c.in-Some.body.now named) c.if-body.false) in
    let asleep : AreNamedAsleep woke =
    rw (c.wake_planned.ensures.told, c.wake_planned.ensures.acting, c.in_ok-reserve.ensures.acting, (rw (← c.self.view_is) at c.in_ok-waking.ensures.names), c.deref-2.ensures.value, c.in_ok-joined.ensures.slots, c.bodies-2.ensures, c.joints.ensures)
    (woken_named w c.self.inside.activity.sets.acting (joined_at w c.args.handle) c.self.invariant.whole) in
    let long = length-set woke slot (option_map enabled_body (body_at woke slot)) in
    rw (c.bodies-5.ensures, c.enable.ensures.bodies)
    (changed_can_follow woke (changed_at enabled_body woke slot) w.plain.joints slot c.wake_planned.new.activity.joint_sets (omega (arith, long)) (set_beside woke slot (option_map enabled_body (body_at woke slot)))
    (λ k end. off_up woke slot (joint_at w.plain.joints k) (ap is_enabled_in at ∙ c.if-body.false) end)
    (enabled_named woke slot there asleep) c.wake_planned.ensures.standing)

pub follow-requires-clause-others : goal.follow-requires-clause-others
follow-requires-clause-others c k =
    let slot = c.args.handle.slot in
    let woke = c.wake_planned.new.activity.bodies.bodies in
    rw (c.bodies-5.ensures, c.enable.ensures.bodies)
    (changed_beside woke (changed_at enabled_body woke slot) c.self.inside.constraints.joints.joints slot c.wake_planned.new.activity.joint_sets (set_beside woke slot (option_map enabled_body (body_at woke slot))) c.wake_planned.ensures.standing k)

pub come-requires-clause-fresh : goal.come-requires-clause-fresh
come-requires-clause-fresh c =
    let w : World = the_view c.self.inside in
    let named : body_named w.plain c.args.handle ≡ Some c.in-Some.body.now = rw (← c.bodies.ensures) (sym c.in-Some.ensures) in
    rw (c.wake_planned.ensures.acting, c.in_ok-reserve.ensures.acting, (rw (← c.self.view_is) at c.in_ok-waking.ensures.names), c.deref-2.ensures.value, c.in_ok-joined.ensures.slots, c.bodies-2.ensures, c.joints.ensures)
    (can_enable_from w c.self.inside.activity.sets.acting c.args.handle c.in-Some.body.now c.self.invariant.whole named c.if-body.false).fresh

pub come-requires-clause-below : goal.come-requires-clause-below
come-requires-clause-below c =
    let w : World = the_view c.self.inside in
    let named : body_named w.plain c.args.handle ≡ Some c.in-Some.body.now = rw (← c.bodies.ensures) (sym c.in-Some.ensures) in
    let below = body_below w c.args.handle c.in-Some.body.now named in
    let made = rw c.bodies-3.ensures at c.in_ok-reserve.ensures.slots_made in
    rw c.wake_planned.ensures.slots (omega (arith, below, made))

pub begin_each-requires-clause-can : goal.begin_each-requires-clause-can
begin_each-requires-clause-can c =
    let w : World = the_view c.self.inside in
    let named : body_named w.plain c.args.handle ≡ Some c.in-Some.body.now = rw (← c.bodies.ensures) (sym c.in-Some.ensures) in
    rw (c.deref-4.ensures.value, c.fill_joint_ties.ensures.ties, c.bodies-4.ensures, c.slot_entries-2.ensures, c.joints-2.ensures, c.enable.ensures.bodies, c.come.ensures.acting, c.is_dynamic-mover.ensures, c.wake_planned.ensures.told, c.wake_planned.ensures.acting, c.in_ok-reserve.ensures.acting, (rw (← c.self.view_is) at c.in_ok-waking.ensures.names), c.deref-2.ensures.value, c.in_ok-joined.ensures.slots, c.bodies-2.ensures, c.joints.ensures)
    (can_enable_from w c.self.inside.activity.sets.acting c.args.handle c.in-Some.body.now c.self.invariant.whole named c.if-body.false).can

pub begin_each-requires-clause-room : goal.begin_each-requires-clause-room
begin_each-requires-clause-room c =
    let few = rw c.deref-3.ensures.value at c.fill_joint_ties.ensures.few in
    let made = c.in_ok-reserve.ensures.room_made in
    rw (c.deref-4.ensures.value, c.come.ensures.room, c.wake_planned.ensures.room, c.come.ensures.acting, come_ties c.is_dynamic-mover.result c.args.handle.slot c.wake_planned.new.activity.sets.acting, c.wake_planned.ensures.acting, woken_room c.in_ok-waking.waking.names.items c.reserve.new.self.acting, c.in_ok-reserve.ensures.acting)
    (omega (arith, few, made))

pub invariant_of-self-2 : goal.invariant_of-self-2
invariant_of-self-2 c =
    let w : World = the_view c.self.inside in
    let named : body_named w.plain c.args.handle ≡ Some c.in-Some.body.now = rw (← c.bodies.ensures) (sym c.in-Some.ensures) in
    let calls : c.self.inside.calls < 2 ^ 40 = rw (← c.self.view_is) at c.requires in
    core_bodies (the_view c.self.inside) _ _ _ c.self.inside.activity.bodies c.enable.new.self c.self.invariant
    (rw (c.begin_each.ensures.acting, c.deref-4.ensures.value, c.fill_joint_ties.ensures.ties, c.bodies-4.ensures, c.slot_entries-2.ensures, c.joints-2.ensures, c.enable.ensures.bodies, c.come.ensures.acting, c.is_dynamic-mover.ensures, c.wake_planned.ensures.told, c.wake_planned.ensures.acting, c.in_ok-reserve.ensures.acting, (rw (← c.self.view_is) at c.in_ok-waking.ensures.names), c.deref-2.ensures.value, c.in_ok-joined.ensures.slots, c.bodies-2.ensures, c.joints.ensures)
    (whole w _ _ _ (enable_left w c.self.inside.activity.sets.acting c.args.handle c.in-Some.body.now (kept_of _ _ c.self.invariant.whole) c.self.invariant.whole.same calls named c.if-body.false)))
    refl refl refl refl
    (marked_after c.self.inside.activity.bodies c.wake_planned.new.activity.bodies c.enable.new.self c.wake_planned.ensures.marked c.enable.ensures.marked)
    c.follow.new.sets (record {
      asleep = rw c.bodies-5.ensures at c.follow.ensures.asleep;
      items = λ k on. let lt = c.wake_planned.ensures.standing.items k on in omega (arith, lt, c.follow.ensures.items);
      named =
          let woke = c.wake_planned.new.activity.bodies.bodies in
          let long : length c.enable.new.self.bodies ≡ length woke = ap (λ (os : List (Option Body)). length os) c.enable.ensures.bodies ∙ length-set woke c.args.handle.slot (option_map enabled_body (body_at woke c.args.handle.slot)) in
          let room = c.wake_planned.ensures.standing.named in
          let names = c.follow.ensures.sets in
          omega (arith, long, room, names);
    })
    c.self.inside.constraints.contacts.numbered c.wake_planned.new.activity.contact_sets
    (let slot = c.args.handle.slot in
    let woke = c.wake_planned.new.activity.bodies.bodies in
    let slots = joined_to w.plain.bodies w.plain.joints slot in
    let kept = waking_kept w slots (kept_of _ _ c.self.invariant.whole) in
    let names = rw (← c.self.view_is, c.deref-2.ensures.value, c.in_ok-joined.ensures.slots, c.bodies-2.ensures, c.joints.ensures) at c.in_ok-waking.ensures.names in
    let has : HasWoken w slots c.wake_planned.new.activity.sets.acting woke = has_woken w slots c.in_ok-waking.waking.names.items c.self.inside.activity.sets.acting c.wake_planned.new.activity.sets.acting woke c.self.invariant.whole names (rw c.in_ok-reserve.ensures.acting at c.wake_planned.ensures.acting) c.wake_planned.ensures.told in
    let there : All (HasBodies woke) w.plain.contacts = rw has.bodies kept.kept.there in
    let off : is_enabled woke slot ≡ false = rw has.bodies (kept.alike.enabled slot ∙ ap is_enabled_in (named_at w.plain c.args.handle c.in-Some.body.now named) ∙ c.if-body.false) in
    let long : length c.enable.new.self.bodies ≡ length woke = ap (λ (os : List (Option Body)). length os) c.enable.ensures.bodies ∙ length-set woke slot (option_map enabled_body (body_at woke slot)) in
    let room = c.wake_planned.ensures.contacts_standing.named in
    contacts_stay woke c.enable.new.self.bodies slot w.plain.contacts c.self.inside.constraints.contacts.numbered c.wake_planned.new.activity.contact_sets c.wake_planned.new.activity.contact_sets there off c.know_numbered.ensures.numbered (rw c.enable.ensures.bodies (set_beside woke slot (option_map enabled_body (body_at woke slot)))) (λ id. refl) (omega arith) (omega (arith, long, room)) c.wake_planned.ensures.contacts_standing)

pub returns : goal.returns
returns c =
    let w : World = the_view c.self.inside in
    let named : body_named w.plain c.args.handle ≡ Some c.in-Some.body.now = rw (← c.bodies.ensures) (sym c.in-Some.ensures) in
    let calls : c.self.inside.calls < 2 ^ 40 = rw (← c.self.view_is) at c.requires in
    rw (← c.self.view_is)
    (enable_answers w c.args.handle c.in-Some.body.now _ c.begin_each.new.self.acting named
    (rw (c.begin_each.ensures.acting, c.deref-4.ensures.value, c.fill_joint_ties.ensures.ties, c.bodies-4.ensures, c.slot_entries-2.ensures, c.joints-2.ensures, c.enable.ensures.bodies, c.come.ensures.acting, c.is_dynamic-mover.ensures, c.wake_planned.ensures.told, c.wake_planned.ensures.acting, c.in_ok-reserve.ensures.acting, (rw (← c.self.view_is) at c.in_ok-waking.ensures.names), c.deref-2.ensures.value, c.in_ok-joined.ensures.slots, c.bodies-2.ensures, c.joints.ensures)
    (enable_left w c.self.inside.activity.sets.acting c.args.handle c.in-Some.body.now (kept_of _ _ c.self.invariant.whole) c.self.invariant.whole.same calls named c.if-body.false)))
