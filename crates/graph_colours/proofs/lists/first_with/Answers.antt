use Rattle.std.proofs.Common.{◌≡◌, true, [], Bool, length, get_or, sym, ap, ◌∙◌, arith}
use Rattle.std.proofs.lemmas.List.Sums.{position_or_len_is}
use Rattle.graph_colours.specs.Edits.{Pended}
use Rattle.graph_colours.specs.FoundMembers.{has_id}
use Rattle.graph_colours.proofs.lists.first_with.Goals as goal

pub returns-then-has_id : goal.returns-then-has_id
returns-then-has_id g c =
    let p : Pended g.row.C.Denot → Bool = λ l. has_id g.C.ConstraintId.number c.args.id l.items in
    let e = c.index-lists-place.result in
    let at : p (get_or c.args.lists.now c.loop-place.place e) ≡ true = ap p (sym c.index-lists-place.is) ∙ sym c.has_id.ensures ∙ c.if-has_id.true in
    sym (position_or_len_is p c.args.lists.now c.loop-place.place e (omega (arith, c.loop-place-test.true)) (λ k lt. c.loop-place.invariant k e (omega arith) lt) (λ lt. at))

pub returns : goal.returns
returns g c =
    let p : Pended g.row.C.Denot → Bool = λ l. has_id g.C.ConstraintId.number c.args.id l.items in
    let e : Pended g.row.C.Denot = record { items = []; capacity = 0; pending = 0 } in
    sym (position_or_len_is p c.args.lists.now (length c.args.lists.now) e (omega arith) (λ k lt. c.loop-place.invariant k e (omega arith) (omega (arith, c.loop-place-test.false))) (λ lt. absurd (omega arith)))
