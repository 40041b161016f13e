use Rattle.std.proofs.Common.{◌++◌, ◌∙◌, ◌∷◌, [], Bool, List, ap, cond, sym, arith}
use Rattle.std.proofs.lemmas.List.{append-nil, drop_all}
use Rattle.momenta.specs.declared.state.BodyState.{BodyState}
use Rattle.colour_solver.specs.States.{places_from}
use Rattle.world_core_base.specs.Listing.{is_of}
use Rattle.world_core_base.proofs.SlotsRising.{list_step}
use Rattle.world_core_base.proofs.slots.list_group.Goals as goal

pub loop-slot-preserved : goal.loop-slot-preserved
loop-slot-preserved c =
    let states = c.args.states.now in
    let slot = c.loop-slot.slot in
    record {
      items = list_step (is_of c.args.group) states slot _ _ _ _ c.loop-slot-test.true (c.push_if.ensures.items ∙ ap (λ (t : Bool). c.loop-slot.slots.items ++ cond t (slot ∷ []) []) c.is_of.ensures) c.loop-slot.invariant.items;
      len = omega (arith, c.push_if.ensures.len, c.loop-slot.invariant.len);
      capacity = omega (arith, c.push_if.ensures.capacity, c.loop-slot.invariant.capacity);
    }

pub returns-clause-items : goal.returns-clause-items
returns-clause-items c =
    let states = c.args.states.now in
    let slot = c.loop-slot.slot in
    sym (append-nil c.loop-slot.slots.items) ∙ ap (λ (l : List BodyState). c.loop-slot.slots.items ++ places_from (is_of c.args.group) slot l) (sym (drop_all slot states c.loop-slot-test.false)) ∙ c.loop-slot.invariant.items
