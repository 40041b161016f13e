use Rattle.std.proofs.Common.{sym, ltb-true, ltb-false, arith, ◌∙◌}
use Rattle.graph_colours.proofs.PlaceLemmas.{absent_at, absent_beyond, movers_none, without_none, movers_is, without_is}
use Rattle.graph_colours.proofs.member.remove.Goals as goal

pub returns-in_err-member-clause-value : goal.returns-in_err-member-clause-value
returns-in_err-member-clause-value g c =
    let ms = c.args.members.now.items in
    let before = rw (c.number-wanted.ensures, c.deref.ensures.value) at c.place_from-place.ensures.before in
    let ends = rw c.deref-2.ensures.value at (ltb-false _ _ (sym c.in_err-member.ensures.lookup.0)) in
    c.from_residual.ensures ∙ movers_none g.C.ConstraintId.number c.args.id ms (absent_beyond g.C.ConstraintId.number ms c.args.id c.place_from-place.result before ends)

pub returns-in_err-member-clause-items : goal.returns-in_err-member-clause-items
returns-in_err-member-clause-items g c =
    let ms = c.args.members.now.items in
    let before = rw (c.number-wanted.ensures, c.deref.ensures.value) at c.place_from-place.ensures.before in
    let ends = rw c.deref-2.ensures.value at (ltb-false _ _ (sym c.in_err-member.ensures.lookup.0)) in
    without_none g.C.ConstraintId.number c.args.id ms (absent_beyond g.C.ConstraintId.number ms c.args.id c.place_from-place.result before ends)

pub returns-then-number-wanted-clause-value : goal.returns-then-number-wanted-clause-value
returns-then-number-wanted-clause-value g c =
    let ms = c.args.members.now.items in
    let before = rw (c.number-wanted.ensures, c.deref.ensures.value) at c.place_from-place.ensures.before in
    let after = rw (c.number-wanted.ensures, c.deref.ensures.value) at c.place_from-place.ensures.after in
    let lt = rw c.deref-2.ensures.value at (ltb-true _ _ (sym c.in_ok-member.ensures.lookup.0)) in
    let is = rw c.deref-2.ensures.value at c.in_ok-member.ensures.lookup.1 in
    movers_none g.C.ConstraintId.number c.args.id ms (absent_at g.C.ConstraintId.number ms c.args.id c.place_from-place.result c.in_ok-member.field-0.now c.requires before after lt is (λ q. c.if-number-wanted.true (omega arith)))

pub returns-then-number-wanted-clause-items : goal.returns-then-number-wanted-clause-items
returns-then-number-wanted-clause-items g c =
    let ms = c.args.members.now.items in
    let before = rw (c.number-wanted.ensures, c.deref.ensures.value) at c.place_from-place.ensures.before in
    let after = rw (c.number-wanted.ensures, c.deref.ensures.value) at c.place_from-place.ensures.after in
    let lt = rw c.deref-2.ensures.value at (ltb-true _ _ (sym c.in_ok-member.ensures.lookup.0)) in
    let is = rw c.deref-2.ensures.value at c.in_ok-member.ensures.lookup.1 in
    without_none g.C.ConstraintId.number c.args.id ms (absent_at g.C.ConstraintId.number ms c.args.id c.place_from-place.result c.in_ok-member.field-0.now c.requires before after lt is (λ q. c.if-number-wanted.true (omega arith)))

pub returns-clause-value : goal.returns-clause-value
returns-clause-value g c =
    let ms = c.args.members.now.items in
    let before = rw (c.number-wanted.ensures, c.deref.ensures.value) at c.place_from-place.ensures.before in
    let after = rw (c.number-wanted.ensures, c.deref.ensures.value) at c.place_from-place.ensures.after in
    let lt = rw c.deref-2.ensures.value at (ltb-true _ _ (sym c.in_ok-member.ensures.lookup.0)) in
    let is = rw c.deref-2.ensures.value at c.in_ok-member.ensures.lookup.1 in
    movers_is g.C.ConstraintId.number ms c.args.id c.place_from-place.result c.in_ok-member.field-0.now c.requires before after lt is (omega arith)

pub returns-clause-items : goal.returns-clause-items
returns-clause-items g c =
    let ms = c.args.members.now.items in
    let before = rw (c.number-wanted.ensures, c.deref.ensures.value) at c.place_from-place.ensures.before in
    let after = rw (c.number-wanted.ensures, c.deref.ensures.value) at c.place_from-place.ensures.after in
    let lt = rw c.deref-2.ensures.value at (ltb-true _ _ (sym c.in_ok-member.ensures.lookup.0)) in
    let is = rw c.deref-2.ensures.value at c.in_ok-member.ensures.lookup.1 in
    c.remove.ensures.items ∙ without_is g.C.ConstraintId.number ms c.args.id c.place_from-place.result c.in_ok-member.field-0.now c.requires before after lt is (omega arith)
