use Rattle.std.proofs.Common.{sym, refl, ◌∙◌, ◌≡◌, None, Some}
use Rattle.graph_colours.specs.Edits.{edit_with}
use Rattle.graph_colours.proofs.NotedLemmas.{with_all_edited}
use Rattle.graph_colours.proofs.edited.EditedList.with_number.Goals as goal

pub returns-in-None : goal.returns-in-None
returns-in-None g c =
    let n = g.C.ConstraintId.number in
    let es = c.self.inside.edits.items in
    let ms = c.self.inside.list.items in
    let none : edit_with n c.args.number es ≡ None = sym (rw c.deref.ensures.value at c.edit_of.ensures) ∙ c.in-None.is in
    let found = rw c.deref-in-None.ensures.value at c.with_number.ensures in
    rw (← c.self.view_is) (found ∙ sym (with_all_edited n c.args.number es ms c.self.invariant.edited.in_order ∙ rw none refl))

pub returns-in-Some : goal.returns-in-Some
returns-in-Some g c =
    let n = g.C.ConstraintId.number in
    let es = c.self.inside.edits.items in
    let ms = c.self.inside.list.items in
    let found : edit_with n c.args.number es ≡ Some c.in-Some.edit = sym (rw c.deref.ensures.value at c.edit_of.ensures) ∙ c.in-Some.is in
    rw (← c.self.view_is) (sym (with_all_edited n c.args.number es ms c.self.invariant.edited.in_order ∙ rw (found, c.if-edit.true) refl))

pub returns-in-Some-2 : goal.returns-in-Some-2
returns-in-Some-2 g c =
    let n = g.C.ConstraintId.number in
    let es = c.self.inside.edits.items in
    let ms = c.self.inside.list.items in
    let found : edit_with n c.args.number es ≡ Some c.in-Some.edit = sym (rw c.deref.ensures.value at c.edit_of.ensures) ∙ c.in-Some.is in
    rw (← c.self.view_is) (sym (with_all_edited n c.args.number es ms c.self.invariant.edited.in_order ∙ rw (found, c.if-edit.false) refl))
