use Rattle.std.proofs.Common.{◌≡◌, ◌<◌, length, Option, ap, sym, ◌∙◌, arith, List, get_or, is_some, refl, subst}
use Rattle.std.specs.Prelude.{option_map}
use Rattle.std.proofs.lemmas.List.{length-set, get_or-set_same}
use Rattle.colour_solver.specs.States.{carried_of, is_carried, movers_of, moves}
use Rattle.plain_world.specs.declared.body.Body.{Body}
use Rattle.world_core_base.specs.Gather.{states_of}
use Rattle.plain_world.specs.Changes.{changed_at}
use Rattle.plain_world.specs.Slots.{body_at}
use Rattle.world_core_base.proofs.ListingLaws.{listed_alike}
use Rattle.world_core_base.proofs.TableLaws.{changed_carried, changed_movers, renewed_states}
use Rattle.world_core_base.proofs.MarkedLaws.{alike_mapped, length-mark_if, marked_eq, marked_if}
use Rattle.std.specs.Option.{ForSome}
use Rattle.world_core_base.proofs.CoverLaws.{box_there, covered_eq, covered_if, there_mapped}
use Rattle.world_core_base.specs.Covers.{IsCovered}
use Rattle.box_tree.specs.BoxLists.{box_at}
use Rattle.world_core_base.proofs.AsleepLaws.{alike_changed}
use Rattle.world_core_base.proofs.body_table.BodyTable.change.Goals as goal

pub invariant_of-self : goal.invariant_of-self
invariant_of-self g c =
    let bodies = c.self.inside.bodies.items in
    let states = c.self.inside.states.items in
    let there : c.args.slot < length bodies = rw (← c.self.view_is) at c.requires.slot in
    let f = g.C.BodyChange.after c.args.change.now in
    let o : Option Body = option_map f (body_at bodies c.args.slot) in
    let now : c.renew_state.new.states.items ≡ states_of (changed_at f bodies c.args.slot) =
    rw (c.renew_state.ensures, c.deref.ensures.value, c.change_slot.ensures.value) (renewed_states bodies states c.args.slot o c.self.invariant.states there) in
    let fits : ForSome (body_at bodies c.args.slot) (g.C.BodyChange.fits c.args.change.now) = rw (← c.self.view_is) at c.requires.fits in
    let body : c.index.result.now ≡ o = c.index.ensures ∙ ap (λ (l : List (Option Body)). get_or l c.args.slot c.index.result.now) c.change_slot.ensures.value ∙ get_or-set_same bodies c.args.slot o c.index.result.now there in
    record {
      covered = covered_eq _ _ _ _ c.change_slot.ensures.value refl
          (covered_if bodies c.self.inside.boxes c.cover_again.new.boxes c.args.slot o c.moves-made.result c.self.invariant.covered c.cover_again.ensures.others (λ on1. subst (λ (p : Option Body). IsCovered (box_at c.cover_again.new.boxes c.args.slot) p) body (c.cover_again.ensures.covered on1)) c.cover_again.ensures.same
          (λ off. alike_mapped f (body_at bodies c.args.slot) (λ b e. c.moves-made.ensures.alike off b (fits b e))));
      for_boxes = let long = length-set bodies c.args.slot o in let same = ap length c.change_slot.ensures.value in omega (arith, long, same, c.cover_again.ensures.len, c.self.invariant.for_boxes);
      states = rw c.change_slot.ensures.value now;
      movers = listed_alike moves states c.renew_state.new.states.items c.self.inside.awake refl (ap movers_of c.self.invariant.states ∙ changed_movers bodies c.args.slot o there (rw c.change_slot.ensures.value at c.change_slot.ensures.awake) ∙ ap movers_of (sym now)) c.self.invariant.movers;
      along = listed_alike is_carried states c.renew_state.new.states.items c.self.inside.carried refl (ap carried_of c.self.invariant.states ∙ changed_carried bodies c.args.slot o there (rw c.change_slot.ensures.value at c.change_slot.ensures.carried) ∙ ap carried_of (sym now)) c.self.invariant.along;
      few = let long = length-set bodies c.args.slot o in let same = ap length c.change_slot.ensures.value in omega (arith, long, same, c.self.invariant.few);
      for_bodies = omega arith;
      for_states = omega arith;
      for_awake = let long = length-set bodies c.args.slot o in let same = ap length c.change_slot.ensures.value in omega (arith, long, same, c.self.invariant.for_awake);
      for_marks = let long = length-set bodies c.args.slot o in let same = ap length c.change_slot.ensures.value in let marks = ap length c.mark_if.ensures ∙ length-mark_if c.self.inside.marks c.args.slot c.moves-made.result in omega (arith, long, same, marks, c.self.invariant.for_marks);
      for_carried = let long = length-set bodies c.args.slot o in let same = ap length c.change_slot.ensures.value in omega (arith, long, same, c.self.invariant.for_carried);
    }

pub returns-clause-asleep : goal.returns-clause-asleep
returns-clause-asleep g c =
    let bodies = c.self.inside.bodies.items in
    let there : c.args.slot < length bodies = rw (← c.self.view_is) at c.requires.slot in
    rw (← c.self.view_is) (alike_changed bodies _ c.args.slot (option_map (g.C.BodyChange.after c.args.change.now) (body_at bodies c.args.slot)) there c.change_slot.ensures.value c.change_slot.ensures.standing c.change_slot.ensures.carried)

pub returns-clause-marked : goal.returns-clause-marked
returns-clause-marked g c =
    let bodies = c.self.inside.bodies.items in
    let f = g.C.BodyChange.after c.args.change.now in
    let fits : ForSome (body_at bodies c.args.slot) (g.C.BodyChange.fits c.args.change.now) = rw (← c.self.view_is) at c.requires.fits in
    rw (← c.self.view_is)
    (marked_eq _ _ _ _ _ _ c.change_slot.ensures.value c.mark_if.ensures
    (marked_if bodies c.self.inside.marks c.args.slot (option_map f (body_at bodies c.args.slot)) c.moves-made.result (λ off. alike_mapped f (body_at bodies c.args.slot) (λ b e. c.moves-made.ensures.alike off b (fits b e)))))

pub cover_again-requires : goal.cover_again-requires
cover_again-requires g c = λ on1.
    let bodies = c.self.inside.bodies.items in
    let there : c.args.slot < length bodies = rw (← c.self.view_is) at c.requires.slot in
    let f = g.C.BodyChange.after c.args.change.now in
    let o : Option Body = option_map f (body_at bodies c.args.slot) in
    let body : c.index.result.now ≡ o = c.index.ensures ∙ ap (λ (l : List (Option Body)). get_or l c.args.slot c.index.result.now) c.change_slot.ensures.value ∙ get_or-set_same bodies c.args.slot o c.index.result.now there in
    box_there (box_at c.self.inside.boxes c.args.slot) (body_at bodies c.args.slot) (c.self.invariant.covered c.args.slot) (sym (there_mapped f (body_at bodies c.args.slot)) ∙ ap is_some (sym body) ∙ on1)
