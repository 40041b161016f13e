use Rattle.std.proofs.Common.{◌≡◌, ◌+◌, ◌<◌, ◌∷◌, length, drop, ◌∙◌, arith}
use Rattle.sleep_wake.specs.Waking.{released_all}
use Rattle.sleep_wake.proofs.SetLemmas.{front_is}
use Rattle.sleep_wake.proofs.ChangeOwn.{own_released}
use Rattle.sleep_wake.proofs.movers_in_islands.release_each.Goals as goal

pub loop-place-preserved : goal.loop-place-preserved
loop-place-preserved g c =
    let m = c.index-list-place.result in
    let rest = drop (c.loop-place.place + 1) c.args.list.now in
    let lt : c.loop-place.place < length c.args.list.now = omega (arith, c.loop-place-test.true, c.loop-place.auto.place-end) in
    let front : drop c.loop-place.place c.args.list.now ≡ m ∷ rest = front_is c.args.list.now c.loop-place.place m lt c.index-list-place.is in
    let left : released_all g.C.ConstraintId.number c.loop-place.colours.lists (m ∷ rest) ≡ released_all g.C.ConstraintId.number c.args.colours.now.lists c.args.list.now = rw front at c.loop-place.invariant.rest in
    record {
      own = rw c.release_member.ensures.lists (own_released g.C.ConstraintId.number m.id c.args.list.now c.loop-place.colours.lists c.loop-place.invariant.own);
      rest = rw c.release_member.ensures.lists left;
      slots = c.release_member.ensures.slots ∙ c.loop-place.invariant.slots;
      room = c.release_member.ensures.total ∙ c.loop-place.invariant.room;
    }
