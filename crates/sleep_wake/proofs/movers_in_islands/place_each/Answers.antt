use Rattle.std.proofs.Common.{◌≡◌, ◌+◌, ◌<◌, ◌∷◌, length, drop, ◌∙◌, arith}
use Rattle.islands.proofs.JoinLemmas.{contains_head}
use Rattle.sleep_wake.specs.Waking.{placed_all}
use Rattle.sleep_wake.specs.Rooms.{CanPlace}
use Rattle.sleep_wake.proofs.SetLemmas.{front_is, placed_one, room_for_one}
use Rattle.sleep_wake.proofs.movers_in_islands.place_each.Goals as goal

pub place-requires-clause-below : goal.place-requires-clause-below
place-requires-clause-below g c =
    let m = c.index-list-place.result in
    let rest = drop (c.loop-place.place + 1) c.args.list.now in
    let lt : c.loop-place.place < length c.args.list.now = omega (arith, c.loop-place-test.true, c.loop-place.auto.place-end) in
    let front : drop c.loop-place.place c.args.list.now ≡ m ∷ rest = front_is c.args.list.now c.loop-place.place m lt c.index-list-place.is in
    let can : CanPlace g.C.ConstraintId.number (m ∷ rest) c.loop-place.colours.lists c.loop-place.colours.room c.loop-place.colours.slots = rw front at c.loop-place.invariant.can in
    can.below m (contains_head m rest)

pub place-requires-clause-room : goal.place-requires-clause-room
place-requires-clause-room g c =
    let m = c.index-list-place.result in
    let rest = drop (c.loop-place.place + 1) c.args.list.now in
    let lt : c.loop-place.place < length c.args.list.now = omega (arith, c.loop-place-test.true, c.loop-place.auto.place-end) in
    let front : drop c.loop-place.place c.args.list.now ≡ m ∷ rest = front_is c.args.list.now c.loop-place.place m lt c.index-list-place.is in
    let can : CanPlace g.C.ConstraintId.number (m ∷ rest) c.loop-place.colours.lists c.loop-place.colours.room c.loop-place.colours.slots = rw front at c.loop-place.invariant.can in
    room_for_one g.C.ConstraintId.number m rest c.loop-place.colours.lists c.loop-place.colours.room c.loop-place.colours.slots can

pub loop-place-preserved : goal.loop-place-preserved
loop-place-preserved g c =
    let m = c.index-list-place.result in
    let rest = drop (c.loop-place.place + 1) c.args.list.now in
    let lt : c.loop-place.place < length c.args.list.now = omega (arith, c.loop-place-test.true, c.loop-place.auto.place-end) in
    let front : drop c.loop-place.place c.args.list.now ≡ m ∷ rest = front_is c.args.list.now c.loop-place.place m lt c.index-list-place.is in
    let can : CanPlace g.C.ConstraintId.number (m ∷ rest) c.loop-place.colours.lists c.loop-place.colours.room c.loop-place.colours.slots = rw front at c.loop-place.invariant.can in
    let left : placed_all g.C.ConstraintId.number c.loop-place.colours.lists (m ∷ rest) ≡ placed_all g.C.ConstraintId.number c.args.colours.now.lists c.args.list.now = rw front at c.loop-place.invariant.rest in
    record {
      can = rw c.place.ensures.lists (placed_one g.C.ConstraintId.number m rest c.loop-place.colours.lists c.loop-place.colours.room c.place.new.self.room c.place.new.self.slots (rw c.place.ensures.slots can) c.place.ensures.room);
      rest = rw c.place.ensures.lists left;
      slots = c.place.ensures.slots ∙ c.loop-place.invariant.slots;
      room = c.place.ensures.total ∙ c.loop-place.invariant.room;
    }
