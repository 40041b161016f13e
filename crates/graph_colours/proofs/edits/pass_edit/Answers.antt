use Rattle.std.proofs.Common.{◌≡◌, ◌≤◌, ◌++◌, ◌+◌, take, sym, ◌∙◌, arith}
use Rattle.std.proofs.lemmas.Grind.{common_steps}
use Rattle.graph_colours.specs.Edits.{added, edit_number}
use Rattle.graph_colours.proofs.EditLemmas.{edit_step, left_behind, left_there, rest_all, rest_beyond}
use Rattle.graph_colours.proofs.edits.pass_edit.Goals as goal

pub returns-then-is_at-clause-items : goal.returns-then-is_at-clause-items
returns-then-is_at-clause-items g c = λ later up.
    let n = g.C.ConstraintId.number in
    let e = c.args.edit in
    let ms = c.args.members.now in
    let i = c.place_from-place.result in
    let before = rw c.number-number.ensures at c.place_from-place.ensures.before in
    let after = rw c.number-number.ensures at c.place_from-place.ensures.after in
    let at = rw c.number-number.ensures at (sym c.is_at.ensures ∙ c.if-is_at.true) in
    let passed : c.push_added.new.list.items ≡ (c.args.list.now.items ++ take i ms) ++ added e = grind (arith, common_steps) in
    edit_step n e later c.args.list.now.items c.push_added.new.list.items ms i (i + 1) (left_behind n e.member.id ms i c.requires.rising at) (rest_beyond (λ m. edit_number n e ≤ n m.id) ms i after) before up passed

pub returns-else-is_at-clause-items : goal.returns-else-is_at-clause-items
returns-else-is_at-clause-items g c = λ later up.
    let n = g.C.ConstraintId.number in
    let e = c.args.edit in
    let ms = c.args.members.now in
    let i = c.place_from-place.result in
    let before = rw c.number-number.ensures at c.place_from-place.ensures.before in
    let after = rw c.number-number.ensures at c.place_from-place.ensures.after in
    let at = rw c.number-number.ensures at (sym c.is_at.ensures ∙ c.if-is_at.false) in
    let passed : c.push_added.new.list.items ≡ (c.args.list.now.items ++ take i ms) ++ added e = grind (arith, common_steps) in
    edit_step n e later c.args.list.now.items c.push_added.new.list.items ms i i (left_there n e.member.id ms i c.requires.rising after at) (rest_all (λ m. edit_number n e ≤ n m.id) ms i after) before up passed
