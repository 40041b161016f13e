use Rattle.std.proofs.Common.{◌<◌, List, length, None, ap, ◌∙◌, arith, slice_set, true, refl}
use Rattle.std.proofs.lemmas.List.{length-set}
use Rattle.momenta.specs.declared.state.BodyState.{BodyState}
use Rattle.colour_solver.specs.States.{is_carried, moves, nobody}
use Rattle.world_core_base.proofs.GatherLaws.{length-states}
use Rattle.world_core_base.proofs.TableLaws.{states-set}
use Rattle.world_core_base.proofs.MarkedLaws.{marked_eq, marked_set}
use Rattle.world_core_base.proofs.CoverLaws.{covered_eq, covered_set}
use Rattle.world_core_base.proofs.ListingLaws.{listed_set}
use Rattle.world_core_base.proofs.body_table.BodyTable.clear.Goals as goal

pub relist-requires-clause-few : goal.relist-requires-clause-few
relist-requires-clause-few c =
    let states = c.self.inside.states.items in
    let long = ap length c.deref.ensures.value ∙ length-set states c.args.slot nobody ∙ ap length c.self.invariant.states ∙ length-states c.self.inside.bodies.items in
    omega (arith, long, c.self.invariant.few)

pub relist-requires-clause-for_awake : goal.relist-requires-clause-for_awake
relist-requires-clause-for_awake c =
    let states = c.self.inside.states.items in
    let long = ap length c.deref.ensures.value ∙ length-set states c.args.slot nobody ∙ ap length c.self.invariant.states ∙ length-states c.self.inside.bodies.items in
    omega (arith, long, c.self.invariant.for_awake)

pub relist-requires-clause-for_carried : goal.relist-requires-clause-for_carried
relist-requires-clause-for_carried c =
    let states = c.self.inside.states.items in
    let long = ap length c.deref.ensures.value ∙ length-set states c.args.slot nobody ∙ ap length c.self.invariant.states ∙ length-states c.self.inside.bodies.items in
    omega (arith, long, c.self.invariant.for_carried)

pub invariant_of-self : goal.invariant_of-self
invariant_of-self c =
    let bodies = c.self.inside.bodies.items in
    let there : c.args.slot < length bodies = rw (← c.self.view_is) at c.requires.slot in
    let states = c.self.inside.states.items in
    record {
      covered = covered_eq _ _ _ _ c.clear_slot.ensures refl (covered_set bodies c.self.inside.boxes c.uncover.new.boxes c.args.slot None c.self.invariant.covered c.uncover.ensures.others tt);
      for_boxes = let now = ap length c.clear_slot.ensures ∙ length-set bodies c.args.slot None in omega (arith, now, c.uncover.ensures.len, c.self.invariant.for_boxes);
      states = rw c.clear_slot.ensures (ap (λ (l : List BodyState). slice_set l c.args.slot nobody) c.self.invariant.states ∙ states-set bodies c.args.slot None);
      movers = listed_set moves states _ c.args.slot nobody c.self.inside.awake c.relist.new.awake refl c.self.invariant.movers (rw c.deref.ensures.value at c.relist.ensures.awake);
      along = listed_set is_carried states _ c.args.slot nobody c.self.inside.carried c.relist.new.carried refl c.self.invariant.along (rw c.deref.ensures.value at c.relist.ensures.carried);
      few = let now = ap length c.clear_slot.ensures ∙ length-set bodies c.args.slot None in omega (arith, now, c.self.invariant.few);
      for_bodies = omega arith;
      for_states = omega arith;
      for_awake = let now = ap length c.clear_slot.ensures ∙ length-set bodies c.args.slot None in omega (arith, now, c.self.invariant.for_awake, c.relist.ensures.awake_capacity);
      for_marks = let now = ap length c.clear_slot.ensures ∙ length-set bodies c.args.slot None in let marks = ap length c.mark.ensures ∙ length-set c.self.inside.marks c.args.slot true in omega (arith, now, marks, c.self.invariant.for_marks);
      for_carried = let now = ap length c.clear_slot.ensures ∙ length-set bodies c.args.slot None in omega (arith, now, c.self.invariant.for_carried, c.relist.ensures.carried_capacity);
    }

pub returns-clause-marked : goal.returns-clause-marked
returns-clause-marked c = rw (← c.self.view_is) (marked_eq _ _ _ _ _ _ c.clear_slot.ensures c.mark.ensures (marked_set c.self.inside.bodies.items c.self.inside.marks c.args.slot None))
