use Rattle.std.proofs.Common.{sym, ltb-true, ltb-false, arith, ◌∙◌, refl}
use Rattle.graph_colours.specs.FoundMembers.{with_number}
use Rattle.graph_colours.proofs.NotedLemmas.{found_at, found_nowhere, nowhere_from, other_there}
use Rattle.graph_colours.proofs.member.with_number.Goals as goal

pub returns-in_err-member : goal.returns-in_err-member
returns-in_err-member g c =
    let n = g.C.ConstraintId.number in
    let ms = c.args.members.now in
    let w = c.args.wanted in
    let far = ltb-false _ _ (sym c.in_err-member.ensures.lookup.0) in
    c.from_residual.ensures ∙ sym (found_nowhere (λ m. n m.id) w (with_number n w) ms refl (λ x l. refl) (nowhere_from (λ m. n m.id) w ms c.place_from.result c.requires c.place_from.ensures.before c.place_from.ensures.after (λ d lt e. absurd (omega (arith, far, lt)))))

pub returns-then-number-wanted : goal.returns-then-number-wanted
returns-then-number-wanted g c =
    let n = g.C.ConstraintId.number in
    let ms = c.args.members.now in
    let w = c.args.wanted in
    sym (found_nowhere (λ m. n m.id) w (with_number n w) ms refl (λ x l. refl) (nowhere_from (λ m. n m.id) w ms c.place_from.result c.requires c.place_from.ensures.before c.place_from.ensures.after (other_there (λ m. n m.id) w ms c.place_from.result c.in_ok-member.field-0.now c.in_ok-member.ensures.lookup.1 (λ q. c.if-number-wanted.true (c.number.ensures ∙ q)))))

pub returns : goal.returns
returns g c =
    let n = g.C.ConstraintId.number in
    let ms = c.args.members.now in
    let w = c.args.wanted in
    let lt = ltb-true _ _ (sym c.in_ok-member.ensures.lookup.0) in
    sym (found_at (λ m. n m.id) w (with_number n w) ms c.place_from.result c.in_ok-member.field-0.now (λ x l. refl) c.place_from.ensures.before lt c.in_ok-member.ensures.lookup.1 (sym c.number.ensures ∙ omega arith))
