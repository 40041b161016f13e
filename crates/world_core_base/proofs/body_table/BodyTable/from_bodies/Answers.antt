use Rattle.std.proofs.Common.{◌≡◌, true, List, Option, ap, arith, cond, length, refl, subst, sym, ◌∙◌}
use Rattle.std.proofs.lemmas.List.{length-replicate}
use Rattle.plain_world.specs.declared.body.Body.{Body}
use Rattle.colour_solver.specs.States.{is_carried, moves}
use Rattle.world_core_base.specs.Covers.{AreCovered}
use Rattle.world_core_base.specs.Gather.{states_of}
use Rattle.world_core_base.proofs.GatherLaws.{length-states}
use Rattle.world_core_base.proofs.ListingLaws.{listed_exactly}
use Rattle.world_core_base.proofs.body_table.BodyTable.from_bodies.Goals as goal

pub invariant_of-result-3 : goal.invariant_of-result-3
invariant_of-result-3 c =
    let bodies = c.args.bodies.now in
    let copied : c.in_ok-copy_bodies.field-0.items ≡ bodies = c.in_ok-copy_bodies.ensures.copy in
    let same = ap length copied in
    let states : c.in_ok-states.states.items ≡ states_of bodies = c.in_ok-states.ensures.states in
    let long = ap length states ∙ length-states bodies in
    let long_awake = ap length c.deref.ensures.value in
    let long_carried = ap length c.deref-2.ensures.value in
    let slots_awake = rw (← c.awake.view_is, c.deref.ensures.value) at c.in_ok-awake.ensures.slots in
    let slots_carried = rw (← c.carried.view_is, c.deref-2.ensures.value) at c.in_ok-carried.ensures.slots in
    let room_awake = rw (← c.awake.view_is) at c.in_ok-awake.ensures.capacity in
    let room_carried = rw (← c.carried.view_is) at c.in_ok-carried.ensures.capacity in
    record {
      states = states ∙ ap states_of (sym copied);
      movers = listed_exactly moves c.in_ok-states.states.items _ refl slots_awake;
      along = listed_exactly is_carried c.in_ok-states.states.items _ refl slots_carried;
      few = let few = c.requires.few in omega (arith, same, few);
      for_bodies = omega arith;
      for_states = omega arith;
      for_awake = omega (arith, same, long, long_awake, room_awake);
      for_carried = omega (arith, same, long, long_carried, room_carried);
      for_marks = let marks = ap length c.in_ok-all_marked.ensures.marked ∙ length-replicate (length bodies) true in omega (arith, same, marks);
      covered = subst (λ (os : List (Option Body)). AreCovered os c.in_ok-cover_all.field-0) (sym copied) c.in_ok-cover_all.ensures.covered;
      for_boxes = omega (arith, same, c.in_ok-cover_all.ensures.len);
    }

pub returns-clause-pending : goal.returns-clause-pending
returns-clause-pending c =
    let awake : cond c.awake.inside.flushed 0 1 ≡ 0 = rw (← c.awake.view_is) at c.in_ok-awake.ensures.pending in
    let carried : cond c.carried.inside.flushed 0 1 ≡ 0 = rw (← c.carried.view_is) at c.in_ok-carried.ensures.pending in
    omega (arith, awake, carried)
