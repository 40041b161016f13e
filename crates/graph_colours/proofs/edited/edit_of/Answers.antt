use Rattle.std.proofs.Common.{sym, ltb-true, ltb-false, arith, ◌∙◌, refl}
use Rattle.graph_colours.specs.Edits.{edit_number, edit_with}
use Rattle.graph_colours.proofs.NotedLemmas.{found_at, found_nowhere, nowhere_from, other_there}
use Rattle.graph_colours.proofs.edited.edit_of.Goals as goal

pub returns-in_err-edit : goal.returns-in_err-edit
returns-in_err-edit g c =
    let n = g.C.ConstraintId.number in
    let es = c.args.edits.now in
    let w = c.args.wanted in
    let far = ltb-false _ _ (sym c.in_err-edit.ensures.lookup.0) in
    c.from_residual.ensures ∙ sym (found_nowhere (edit_number n) w (edit_with n w) es refl (λ x l. refl) (nowhere_from (edit_number n) w es c.edit_place.result c.requires c.edit_place.ensures.before c.edit_place.ensures.after (λ d lt e. absurd (omega (arith, far, lt)))))

pub returns-then-number-wanted : goal.returns-then-number-wanted
returns-then-number-wanted g c =
    let n = g.C.ConstraintId.number in
    let es = c.args.edits.now in
    let w = c.args.wanted in
    sym (found_nowhere (edit_number n) w (edit_with n w) es refl (λ x l. refl) (nowhere_from (edit_number n) w es c.edit_place.result c.requires c.edit_place.ensures.before c.edit_place.ensures.after (other_there (edit_number n) w es c.edit_place.result c.in_ok-edit.field-0.now c.in_ok-edit.ensures.lookup.1 (λ q. c.if-number-wanted.true (c.number.ensures ∙ q)))))

pub returns : goal.returns
returns g c =
    let n = g.C.ConstraintId.number in
    let es = c.args.edits.now in
    let w = c.args.wanted in
    let lt = ltb-true _ _ (sym c.in_ok-edit.ensures.lookup.0) in
    sym (found_at (edit_number n) w (edit_with n w) es c.edit_place.result c.in_ok-edit.field-0.now (λ x l. refl) c.edit_place.ensures.before lt c.in_ok-edit.ensures.lookup.1 (sym c.number.ensures ∙ omega arith))
