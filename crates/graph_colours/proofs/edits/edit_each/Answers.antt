use Rattle.std.proofs.Common.{◌≡◌, ◌+◌, ◌<◌, ◌≤◌, ◌∷◌, suc, drop, length, arith, ap, sym, subst, ◌∙◌, List}
use Rattle.std.specs.Vec.{vec_capacity}
use Rattle.graph_colours.specs.declared.member.Member.{Member}
use Rattle.graph_colours.specs.Edits.{all_edited, IsEdited}
use Rattle.graph_colours.proofs.EditLemmas.{item_is, edit_made}
use Rattle.graph_colours.proofs.edits.edit_each.Goals as goal

pub edit_one-requires : goal.edit_one-requires
edit_one-requires g c =
    let es = c.args.edits.now in
    let e = c.index-edits-place.result in
    let rest = drop (c.loop-place.place + 1) es in
    let lt : c.loop-place.place < length es = omega (arith, c.loop-place-test.true, c.loop-place.auto.place-end) in
    let front : drop c.loop-place.place es ≡ e ∷ rest = item_is es c.loop-place.place e lt c.index-edits-place.is in
    let is : IsEdited g.C.ConstraintId.number c.loop-place.list.items (e ∷ rest) (vec_capacity c.loop-place.list) = rw front at c.loop-place.invariant.edited in
    record { rising = is.rising; room = λ q. let room : length c.loop-place.list.items + suc (length rest) ≤ vec_capacity c.loop-place.list = is.room in omega (arith, room) }

pub loop-place-preserved : goal.loop-place-preserved
loop-place-preserved g c =
    let es = c.args.edits.now in
    let e = c.index-edits-place.result in
    let rest = drop (c.loop-place.place + 1) es in
    let lt : c.loop-place.place < length es = omega (arith, c.loop-place-test.true, c.loop-place.auto.place-end) in
    let front : drop c.loop-place.place es ≡ e ∷ rest = item_is es c.loop-place.place e lt c.index-edits-place.is in
    let was = rw front at c.loop-place.invariant.rest in
    let made = edit_made g.C.ConstraintId.number e rest c.loop-place.list.items (vec_capacity c.loop-place.list) (vec_capacity c.edit_one.new.list) (rw front at c.loop-place.invariant.edited) c.edit_one.ensures.capacity in
    record {
      rest = ap (λ (l : List (Member g.row.C.Denot)). all_edited g.C.ConstraintId.number rest l) c.edit_one.ensures.items ∙ was;
      edited = let P : List (Member g.row.C.Denot) → Type 0 = λ l. IsEdited g.C.ConstraintId.number l rest (vec_capacity c.edit_one.new.list) in subst P (sym c.edit_one.ensures.items) made;
      capacity = omega (arith, c.loop-place.invariant.capacity, c.edit_one.ensures.capacity);
    }
