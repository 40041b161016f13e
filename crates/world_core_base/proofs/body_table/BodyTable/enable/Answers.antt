use Rattle.std.proofs.Common.{◌≡◌, ◌<◌, length, Option, ap, ◌∙◌, arith, true, refl}
use Rattle.std.specs.Prelude.{option_map}
use Rattle.std.proofs.lemmas.List.{length-set}
use Rattle.colour_solver.specs.States.{is_carried, moves}
use Rattle.plain_world.specs.declared.body.Body.{Body}
use Rattle.plain_world.specs.Changes.{changed_at, enabled_body}
use Rattle.plain_world.specs.Slots.{body_at}
use Rattle.world_core_base.specs.Gather.{states_of}
use Rattle.world_core_base.proofs.GatherLaws.{length-states}
use Rattle.world_core_base.proofs.ListingLaws.{listed_set}
use Rattle.world_core_base.proofs.TableLaws.{renewed_states}
use Rattle.world_core_base.proofs.MarkedLaws.{marked_eq, marked_set}
use Rattle.world_core_base.proofs.CoverLaws.{covered_eq, covered_mapped}
use Rattle.world_core_base.proofs.body_table.BodyTable.enable.Goals as goal

-- there are as many states as bodies, as before
as_many : (c : goal.After-deref-2) → length c.deref-2.result.now ≡ length c.self.inside.bodies.items
as_many c =
    let bodies = c.self.inside.bodies.items in
    let there : c.args.slot < length bodies = rw (← c.self.view_is) at c.requires.slot in
    let o : Option Body = option_map enabled_body (body_at bodies c.args.slot) in
    let now : c.renew_state.new.states.items ≡ states_of (changed_at enabled_body bodies c.args.slot) =
    rw (c.renew_state.ensures, c.deref.ensures.value, c.enable_slot.ensures) (renewed_states bodies c.self.inside.states.items c.args.slot o c.self.invariant.states there) in
    ap length c.deref-2.ensures.value ∙ ap length now ∙ length-states (changed_at enabled_body bodies c.args.slot) ∙ length-set bodies c.args.slot o

pub relist-requires-clause-few : goal.relist-requires-clause-few
relist-requires-clause-few c = let long = as_many c in omega (arith, long, c.self.invariant.few)

pub relist-requires-clause-for_awake : goal.relist-requires-clause-for_awake
relist-requires-clause-for_awake c = let long = as_many c in omega (arith, long, c.self.invariant.for_awake)

pub relist-requires-clause-for_carried : goal.relist-requires-clause-for_carried
relist-requires-clause-for_carried c = let long = as_many c in omega (arith, long, c.self.invariant.for_carried)

pub invariant_of-self : goal.invariant_of-self
invariant_of-self c =
    let bodies = c.self.inside.bodies.items in
    let slot = c.args.slot in
    let there : slot < length bodies = rw (← c.self.view_is) at c.requires.slot in
    let o : Option Body = option_map enabled_body (body_at bodies slot) in
    let now : c.renew_state.new.states.items ≡ states_of (changed_at enabled_body bodies slot) =
    rw (c.renew_state.ensures, c.deref.ensures.value, c.enable_slot.ensures) (renewed_states bodies c.self.inside.states.items slot o c.self.invariant.states there) in
    let same = ap length c.enable_slot.ensures ∙ length-set bodies slot o in
    record {
      covered = covered_eq _ _ _ _ c.enable_slot.ensures refl (covered_mapped enabled_body bodies c.self.inside.boxes c.args.slot (λ b. refl) c.self.invariant.covered);
      for_boxes = omega (arith, same, c.self.invariant.for_boxes);
      states = rw c.enable_slot.ensures now;
      movers = listed_set moves c.self.inside.states.items c.renew_state.new.states.items slot _ c.self.inside.awake c.relist.new.awake c.renew_state.ensures c.self.invariant.movers (rw c.deref-2.ensures.value at c.relist.ensures.awake);
      along = listed_set is_carried c.self.inside.states.items c.renew_state.new.states.items slot _ c.self.inside.carried c.relist.new.carried c.renew_state.ensures c.self.invariant.along (rw c.deref-2.ensures.value at c.relist.ensures.carried);
      few = omega (arith, same, c.self.invariant.few);
      for_bodies = omega arith;
      for_states = omega arith;
      for_awake = omega (arith, same, c.self.invariant.for_awake, c.relist.ensures.awake_capacity);
      for_marks = let marks = ap length c.mark.ensures ∙ length-set c.self.inside.marks c.args.slot true in omega (arith, same, marks, c.self.invariant.for_marks);
      for_carried = omega (arith, same, c.self.invariant.for_carried, c.relist.ensures.carried_capacity);
    }

pub returns-clause-marked : goal.returns-clause-marked
returns-clause-marked c = rw (← c.self.view_is) (marked_eq _ _ _ _ _ _ c.enable_slot.ensures c.mark.ensures (marked_set c.self.inside.bodies.items c.self.inside.marks c.args.slot (option_map enabled_body (body_at c.self.inside.bodies.items c.args.slot))))
