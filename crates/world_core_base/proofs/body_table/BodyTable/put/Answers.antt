use Rattle.std.proofs.Common.{◌≡◌, ◌≤◌, ◌+◌, ◌∙◌, ap, length, None, arith, true, refl}
use Rattle.colour_solver.specs.States.{is_carried, moves}
use Rattle.plain_world.specs.Slots.{body_at, with_body}
use Rattle.world_core_base.specs.Gather.{states_of}
use Rattle.world_core_base.proofs.GatherLaws.{length-states}
use Rattle.world_core_base.proofs.ListingLaws.{listed_put}
use Rattle.world_core_base.proofs.TableLaws.{few-with_body, length-with_body, put_states}
use Rattle.std.proofs.lemmas.List.{length-set}
use Rattle.world_core_base.proofs.MarkedLaws.{marked_eq, marked_put}
use Rattle.world_core_base.proofs.CoverLaws.{box_within, cover_there, covered_eq, covered_put, long_put}
use Rattle.world_core_base.specs.Covers.{IsCover}
use Rattle.box_tree.specs.BoxLists.{box_at}
use Rattle.world_core_base.proofs.body_table.BodyTable.put.Goals as goal

long_states : (c : goal.After-deref) → length c.put_state.new.states.items ≤ length c.self.inside.bodies.items + 1
long_states c =
    let bodies = c.self.inside.bodies.items in
    let next : c.args.slot ≤ length bodies = rw (← c.self.view_is) at c.requires.next in
    let now : c.put_state.new.states.items ≡ states_of (with_body bodies c.args.slot c.args.body) = rw (c.put_state.ensures, c.body_state-state.ensures) (put_states bodies c.self.inside.states.items c.args.slot c.args.body c.self.invariant.states) in
    let long = ap length now ∙ length-states (with_body bodies c.args.slot c.args.body) in
    let more = length-with_body bodies c.args.slot c.args.body next in
    omega (arith, long, more)

pub relist-requires-clause-few : goal.relist-requires-clause-few
relist-requires-clause-few c =
    let bodies = c.self.inside.bodies.items in
    let now : c.put_state.new.states.items ≡ states_of (with_body bodies c.args.slot c.args.body) = rw (c.put_state.ensures, c.body_state-state.ensures) (put_states bodies c.self.inside.states.items c.args.slot c.args.body c.self.invariant.states) in
    let long = ap length c.deref.ensures.value ∙ ap length now ∙ length-states (with_body bodies c.args.slot c.args.body) in
    let few = few-with_body bodies c.args.slot c.args.body c.ranges.slot.fits c.self.invariant.few in
    omega (arith, long, few)

pub relist-requires-clause-for_awake : goal.relist-requires-clause-for_awake
relist-requires-clause-for_awake c =
    let room : 1 ≤ c.self.inside.room = rw (← c.self.view_is) at c.requires.room in
    let long = ap length c.deref.ensures.value in
    let more = long_states c in
    omega (arith, long, more, room, c.self.invariant.for_awake)

pub relist-requires-clause-for_carried : goal.relist-requires-clause-for_carried
relist-requires-clause-for_carried c =
    let room : 1 ≤ c.self.inside.room = rw (← c.self.view_is) at c.requires.room in
    let long = ap length c.deref.ensures.value in
    let more = long_states c in
    omega (arith, long, more, room, c.self.invariant.for_carried)

pub invariant_of-self : goal.invariant_of-self
invariant_of-self c =
    let bodies = c.self.inside.bodies.items in
    let states = c.self.inside.states.items in
    let next : c.args.slot ≤ length bodies = rw (← c.self.view_is) at c.requires.next in
    let free : body_at bodies c.args.slot ≡ None = rw (← c.self.view_is) at c.requires.free in
    let room : 1 ≤ c.self.inside.room = rw (← c.self.view_is) at c.requires.room in
    let long = ap length c.self.invariant.states ∙ length-states bodies in
    let there : c.args.slot ≤ length states = omega (arith, next, long) in
    let here : IsCover (box_at c.self.inside.boxes c.args.slot) c.args.body.fats = rw (← c.self.view_is) at c.requires.covered in
    record {
      covered = covered_eq _ _ _ _ c.put_item.ensures.items refl (covered_put bodies c.self.inside.boxes c.args.slot c.args.body next c.self.invariant.covered here);
      for_boxes = rw c.put_item.ensures.items (long_put bodies c.args.slot c.args.body (length c.self.inside.boxes) (box_within c.self.inside.boxes c.args.slot (cover_there (box_at c.self.inside.boxes c.args.slot) c.args.body.fats here)) c.self.invariant.for_boxes next);
      states = rw (c.put_state.ensures, c.put_item.ensures.items, c.body_state-state.ensures) (put_states bodies states c.args.slot c.args.body c.self.invariant.states);
      movers = listed_put moves states c.put_state.new.states.items c.args.slot c.body_state-state.result c.self.inside.awake c.relist.new.awake there c.put_state.ensures c.self.invariant.movers (rw c.deref.ensures.value at c.relist.ensures.awake);
      along = listed_put is_carried states c.put_state.new.states.items c.args.slot c.body_state-state.result c.self.inside.carried c.relist.new.carried there c.put_state.ensures c.self.invariant.along (rw c.deref.ensures.value at c.relist.ensures.carried);
      few = let few = few-with_body bodies c.args.slot c.args.body c.ranges.slot.fits c.self.invariant.few in let now = ap length c.put_item.ensures.items in omega (arith, now, few);
      for_bodies = omega arith;
      for_states = omega arith;
      for_awake = let long = length-with_body bodies c.args.slot c.args.body next in let now = ap length c.put_item.ensures.items in omega (arith, long, now, room, c.self.invariant.for_awake, c.relist.ensures.awake_capacity);
      for_marks = let long = length-with_body bodies c.args.slot c.args.body next in let now = ap length c.put_item.ensures.items in let marks = ap length c.mark.ensures ∙ length-set c.self.inside.marks c.args.slot true in omega (arith, long, now, room, marks, c.self.invariant.for_marks);
      for_carried = let long = length-with_body bodies c.args.slot c.args.body next in let now = ap length c.put_item.ensures.items in omega (arith, long, now, room, c.self.invariant.for_carried, c.relist.ensures.carried_capacity);
    }

pub returns-clause-marked : goal.returns-clause-marked
returns-clause-marked c =
    let bodies = c.self.inside.bodies.items in
    let next : c.args.slot ≤ length bodies = rw (← c.self.view_is) at c.requires.next in
    rw (← c.self.view_is) (marked_eq _ _ _ _ _ _ c.put_item.ensures.items c.mark.ensures (marked_put bodies c.self.inside.marks c.args.slot c.args.body next))
