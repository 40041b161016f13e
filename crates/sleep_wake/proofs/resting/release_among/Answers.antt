use Rattle.std.proofs.Common.{◌≡◌, ◌+◌, ◌<◌, ◌∷◌, Bool, length, drop, sym, ◌∙◌, arith}
use Rattle.std.specs.Prelude.{filter}
use Rattle.graph_colours.specs.declared.member.Member.{Member}
use Rattle.sleep_wake.specs.Waking.{released_all}
use Rattle.sleep_wake.specs.Resting.{least_at, is_to_rest}
use Rattle.sleep_wake.proofs.SetLemmas.{front_is}
use Rattle.sleep_wake.proofs.ChangeOwn.{own_released, released_wanted, released_passed}
use Rattle.sleep_wake.proofs.resting.release_among.Goals as goal
use Rattle.sleep_wake.proofs.resting.release_among.Goals.{then-are_resting, else-are_resting}

pub loop-place-preserved : goal.loop-place-preserved
loop-place-preserved g c =
    let n = g.C.ConstraintId.number in
    let wanted : Member g.row.C.Denot → Bool = is_to_rest (least_at c.args.leasts.now) c.args.islands.now.labels in
    let m = c.index-ties-place.result in
    let rest = drop (c.loop-place.place + 1) c.args.ties.now in
    let lt : c.loop-place.place < length c.args.ties.now = omega (arith, c.loop-place-test.true, c.loop-place.auto.place-end) in
    let front : drop c.loop-place.place c.args.ties.now ≡ m ∷ rest = front_is c.args.ties.now c.loop-place.place m lt c.index-ties-place.is in
    let left : released_all n c.loop-place.colours.lists (filter wanted (m ∷ rest)) ≡ released_all n c.args.colours.now.lists (filter wanted c.args.ties.now) = rw front at c.loop-place.invariant.rest in
    elim c.if-are_resting.branch [
      | then-are_resting w ↦ rw w.colours-is (record {
        own = rw w.release_member.ensures.lists (own_released n m.id c.args.ties.now c.loop-place.colours.lists c.loop-place.invariant.own);
        rest = rw w.release_member.ensures.lists (sym (released_wanted n wanted m rest c.loop-place.colours.lists (sym c.are_resting.ensures ∙ w.if-are_resting.true)) ∙ left);
        slots = w.release_member.ensures.slots ∙ c.loop-place.invariant.slots;
        room = w.release_member.ensures.total ∙ c.loop-place.invariant.room;
      })
      | else-are_resting w ↦ rw w.colours-is (record {
        own = c.loop-place.invariant.own;
        rest = released_passed n wanted m rest c.loop-place.colours.lists (sym c.are_resting.ensures ∙ w.if-are_resting.false) ∙ left;
        slots = c.loop-place.invariant.slots;
        room = c.loop-place.invariant.room;
      })
    ]
