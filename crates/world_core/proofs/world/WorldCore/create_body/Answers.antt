use Rattle.std.proofs.Common.{◌≡◌, ◌<◌, ◌≤◌, ◌^◌, length, ap, arith, refl}
use Rattle.body_handles.proofs.LowestLemmas.{lowest-le-length}
use Rattle.body_handles.specs.SlotEntries.{lowest}
use Rattle.body_handles.specs.declared.slot_table.TheConstants.{MAX_SLOTS}
use Rattle.plain_world.specs.Bodies.{IsBody, made}
use Rattle.plain_world.specs.Formed.{HaveFilters}
use Rattle.solver_sets.specs.Joining.{handle_at}
use Rattle.world_rules.specs.World.{World}
use Rattle.world_rules.proofs.KeptMade.{free_slot}
use Rattle.world_rules.proofs.PartsLeft.{create_left}
use Rattle.world_core.specs.contracts.world.WorldCore.{the_view}
use Rattle.world_core.proofs.PartLaws.{create_answers, free_label, kept_of, same_handle, whole}
use Rattle.world_core.proofs.ChangedJointLaws.{body_comes}
use Rattle.world_core_base.proofs.TableLaws.{length-with_body}
use Rattle.world_core.proofs.CoreLaws.{core_bodies}
use Rattle.world_core.proofs.KnownLaws.{marked_after}
use Rattle.plain_world.specs.Slots.{with_body}
use Rattle.solver_sets.specs.Ties.{is_enabled_in}
use Rattle.world_core.proofs.ComingLaws.{made_beside}
use Rattle.world_core.proofs.UpContactLaws.{contacts_stay}
use Rattle.world_core.proofs.WorldSourceLaws.{contacts_more, joints_more}
use Rattle.world_core.proofs.world.WorldCore.create_body.Goals as goal

pub come-requires-clause-fresh : goal.come-requires-clause-fresh
come-requires-clause-fresh c =
    rw (c.in_ok-reserve.ensures.acting, c.in_ok-handle.ensures.slot, c.in_ok-reserve_one.ensures.kept) (free_label (the_view c.self.inside) (kept_of _ _ c.self.invariant.whole))

pub come-requires-clause-below : goal.come-requires-clause-below
come-requires-clause-below c =
    let w : World = the_view c.self.inside in
    let least : lowest w.plain.slot_entries ≤ length w.plain.slot_entries = lowest-le-length w.plain.slot_entries in
    let slots : length w.plain.slot_entries ≡ length w.plain.bodies = (kept_of _ _ c.self.invariant.whole).matched.slots in
    let room = rw (c.bodies.ensures, c.in_ok-reserve_one-2.ensures.bodies) at c.in_ok-reserve.ensures.slots_made in
    rw (c.in_ok-handle.ensures.slot, c.in_ok-reserve_one.ensures.kept) (omega (arith, least, slots, room))

pub reserve_one-requires-2-clause-next : goal.reserve_one-requires-2-clause-next
reserve_one-requires-2-clause-next c =
    let w : World = the_view c.self.inside in
    let least : lowest w.plain.slot_entries ≤ length w.plain.slot_entries = lowest-le-length w.plain.slot_entries in
    let slots : length w.plain.slot_entries ≡ length w.plain.bodies = (kept_of _ _ c.self.invariant.whole).matched.slots in
    rw (c.next_slot.ensures, c.in_ok-reserve_one.ensures.kept) (omega (arith, least, slots))

pub reserve_one-requires-2-clause-free : goal.reserve_one-requires-2-clause-free
reserve_one-requires-2-clause-free c = rw (c.next_slot.ensures, c.in_ok-reserve_one.ensures.kept) (free_slot (the_view c.self.inside) (kept_of _ _ c.self.invariant.whole))

pub put-requires-clause-covered : goal.put-requires-clause-covered
put-requires-clause-covered c =
    let covered = rw (c.next_slot.ensures, c.in_ok-reserve_one.ensures.kept) at c.in_ok-reserve_one-2.ensures.covered in
    rw (c.in_ok-handle.ensures.slot, c.in_ok-reserve_one.ensures.kept) covered

pub put-requires-clause-next : goal.put-requires-clause-next
put-requires-clause-next c =
    let w : World = the_view c.self.inside in
    let least : lowest w.plain.slot_entries ≤ length w.plain.slot_entries = lowest-le-length w.plain.slot_entries in
    let slots : length w.plain.slot_entries ≡ length w.plain.bodies = (kept_of _ _ c.self.invariant.whole).matched.slots in
    rw (c.in_ok-handle.ensures.slot, c.in_ok-reserve_one.ensures.kept, c.in_ok-reserve_one-2.ensures.bodies) (omega (arith, least, slots))

pub put-requires-clause-free : goal.put-requires-clause-free
put-requires-clause-free c =
    rw (c.in_ok-handle.ensures.slot, c.in_ok-reserve_one.ensures.kept, c.in_ok-reserve_one-2.ensures.bodies) (free_slot (the_view c.self.inside) (kept_of _ _ c.self.invariant.whole))

-- room that was made for no body leaves the world as it was
pub invariant_of-self-in_err-reserve-3 : goal.invariant_of-self-in_err-reserve-3
invariant_of-self-in_err-reserve-3 c =
    core_bodies (the_view c.self.inside) _ _ _ c.self.inside.activity.bodies c.reserve_one-2.new.self c.self.invariant
    (rw (c.in_ok-reserve_one.ensures.kept, c.in_ok-reserve_one-2.ensures.bodies, c.in_ok-reserve.ensures.acting) c.self.invariant.whole)
    refl refl refl refl c.in_ok-reserve_one-2.ensures.marked
    c.reserve-2.new.self (rw c.in_ok-reserve_one-2.ensures.bodies (joints_more c.self.inside.activity.bodies.bodies c.self.inside.constraints.joints.joints c.self.inside.activity.joint_sets c.reserve-2.new.self c.reserve-2.ensures.same c.reserve-2.ensures.more_items c.reserve-2.ensures.more_sets c.self.invariant.standing))
    c.self.inside.constraints.contacts.numbered c.reserve-3.new.self (rw c.in_ok-reserve_one-2.ensures.bodies (contacts_more c.self.inside.activity.bodies.bodies c.self.inside.constraints.contacts.numbered c.self.inside.activity.contact_sets c.reserve-3.new.self c.reserve-3.ensures.same c.reserve-3.ensures.more_items c.reserve-3.ensures.more_sets c.self.invariant.contacts_standing))

pub invariant_of-self-2 : goal.invariant_of-self-2
invariant_of-self-2 c =
    let w : World = the_view c.self.inside in
    let calls : c.self.inside.calls < 2 ^ 40 = rw (← c.self.view_is) at c.requires in
    let free : lowest c.self.inside.handles.slot_entries < MAX_SLOTS = rw (c.in_ok-handle.ensures.slot, c.in_ok-reserve_one.ensures.kept) at c.in_ok-handle.ensures.slot_below in
    let body : IsBody (made c.args.def.now) = rw c.in_ok-body.ensures.made at c.in_ok-body.ensures.body in
    let filters : HaveFilters c.args.def.now.shapes = rw c.as_slice.ensures at c.know_filters_fit.ensures in
    core_bodies (the_view c.self.inside) _ _ _ c.self.inside.activity.bodies c.put.new.self c.self.invariant
    (rw (c.widen.ensures.acting, c.come.ensures.acting, c.is_mover.ensures, c.in_ok-handle.ensures.given_out, c.put.ensures.bodies, c.in_ok-handle.ensures.slot, c.in_ok-reserve_one.ensures.kept, c.in_ok-body.ensures.made, c.in_ok-reserve_one-2.ensures.bodies, c.in_ok-reserve.ensures.acting)
    (whole w _ _ _ (create_left w c.self.inside.activity.sets.acting c.args.def.now (kept_of _ _ c.self.invariant.whole) c.self.invariant.whole.same calls free body filters)))
    refl refl refl refl
    (marked_after c.self.inside.activity.bodies c.reserve_one-2.new.self c.put.new.self c.in_ok-reserve_one-2.ensures.marked c.put.ensures.marked)
    c.reserve-2.new.self
    (rw (c.put.ensures.bodies, c.in_ok-handle.ensures.slot, c.in_ok-reserve_one.ensures.kept, c.in_ok-body.ensures.made, c.in_ok-reserve_one-2.ensures.bodies)
    (body_comes w.plain.bodies w.plain.joints (lowest w.plain.slot_entries) (made c.args.def.now) c.self.inside.activity.joint_sets c.reserve-2.new.self (kept_of _ _ c.self.invariant.whole).joints (free_slot w (kept_of _ _ c.self.invariant.whole))
    (let least : lowest w.plain.slot_entries ≤ length w.plain.slot_entries = lowest-le-length w.plain.slot_entries in let slots : length w.plain.slot_entries ≡ length w.plain.bodies = (kept_of _ _ c.self.invariant.whole).matched.slots in omega (arith, least, slots))
    c.reserve-2.ensures.same c.reserve-2.ensures.more_items
    (let least : lowest w.plain.slot_entries ≤ length w.plain.slot_entries = lowest-le-length w.plain.slot_entries in let slots : length w.plain.slot_entries ≡ length w.plain.bodies = (kept_of _ _ c.self.invariant.whole).matched.slots in
    let more = length-with_body w.plain.bodies (lowest w.plain.slot_entries) (made c.args.def.now) (omega (arith, least, slots)) in let room = rw (c.bodies.ensures, c.in_ok-reserve_one-2.ensures.bodies) at c.in_ok-reserve-2.ensures.sets in omega (arith, more, room))
    c.self.invariant.standing))
    c.self.inside.constraints.contacts.numbered c.reserve-3.new.self
    (rw (c.put.ensures.bodies, c.in_ok-handle.ensures.slot, c.in_ok-reserve_one.ensures.kept, c.in_ok-body.ensures.made, c.in_ok-reserve_one-2.ensures.bodies)
    (let slot = lowest w.plain.slot_entries in
    let least : slot ≤ length w.plain.slot_entries = lowest-le-length w.plain.slot_entries in
    let slots : length w.plain.slot_entries ≡ length w.plain.bodies = (kept_of _ _ c.self.invariant.whole).matched.slots in
    let more = length-with_body w.plain.bodies slot (made c.args.def.now) (omega (arith, least, slots)) in
    let room = rw (c.bodies.ensures, c.in_ok-reserve_one-2.ensures.bodies) at c.in_ok-reserve-3.ensures.sets in
    contacts_stay w.plain.bodies (with_body w.plain.bodies slot (made c.args.def.now)) slot w.plain.contacts c.self.inside.constraints.contacts.numbered c.self.inside.activity.contact_sets c.reserve-3.new.self (kept_of _ _ c.self.invariant.whole).there (ap is_enabled_in (free_slot w (kept_of _ _ c.self.invariant.whole))) c.know_numbered.ensures.numbered
    (λ other ne. made_beside w.plain.bodies slot (made c.args.def.now) other (omega (arith, least, slots)) ne) c.reserve-3.ensures.same c.reserve-3.ensures.more_items (omega (arith, more, room)) c.self.invariant.contacts_standing))

pub returns : goal.returns
returns c =
    let w : World = the_view c.self.inside in
    let calls : c.self.inside.calls < 2 ^ 40 = rw (← c.self.view_is) at c.requires in
    let free : lowest c.self.inside.handles.slot_entries < MAX_SLOTS = rw (c.in_ok-handle.ensures.slot, c.in_ok-reserve_one.ensures.kept) at c.in_ok-handle.ensures.slot_below in
    let body : IsBody (made c.args.def.now) = rw c.in_ok-body.ensures.made at c.in_ok-body.ensures.body in
    let filters : HaveFilters c.args.def.now.shapes = rw c.as_slice.ensures at c.know_filters_fit.ensures in
    let slot = rw c.in_ok-reserve_one.ensures.kept at c.in_ok-handle.ensures.slot in
    let generation = rw c.in_ok-reserve_one.ensures.kept at c.in_ok-handle.ensures.generation in
    rw (← c.self.view_is)
    (create_answers w c.args.def.now c.in_ok-handle.handle _ c.widen.new.self.acting c.in_ok-check.ensures.refusal free (same_handle _ (handle_at w.plain.slot_entries (lowest w.plain.slot_entries)) slot generation)
    (rw (c.widen.ensures.acting, c.come.ensures.acting, c.is_mover.ensures, c.in_ok-handle.ensures.given_out, c.put.ensures.bodies, c.in_ok-handle.ensures.slot, c.in_ok-reserve_one.ensures.kept, c.in_ok-body.ensures.made, c.in_ok-reserve_one-2.ensures.bodies, c.in_ok-reserve.ensures.acting)
    (create_left w c.self.inside.activity.sets.acting c.args.def.now (kept_of _ _ c.self.invariant.whole) c.self.invariant.whole.same calls free body filters)))

pub widen-requires : goal.widen-requires
widen-requires c =
    let w : World = the_view c.self.inside in
    let least : lowest w.plain.slot_entries ≤ length w.plain.slot_entries = lowest-le-length w.plain.slot_entries in
    let slots : length w.plain.slot_entries ≡ length w.plain.bodies = (kept_of _ _ c.self.invariant.whole).matched.slots in
    let room = rw (c.bodies.ensures, c.in_ok-reserve_one-2.ensures.bodies) at c.in_ok-reserve.ensures.slots_made in
    rw (c.come.ensures.slots, c.in_ok-handle.ensures.slot, c.in_ok-reserve_one.ensures.kept) (omega (arith, least, slots, room))
