use Rattle.std.proofs.Common.{List, refl, sym, ap, subst, ◌∙◌, arith}
use Rattle.std.specs.Vec.{vec_capacity}
use Rattle.graph_colours.specs.declared.member.Member.{Member}
use Rattle.graph_colours.specs.declared.edits.Edit.{Edit}
use Rattle.graph_colours.specs.Members.{AreRising}
use Rattle.graph_colours.specs.Edits.{edited, all_edited, IsEdited}
use Rattle.graph_colours.proofs.EditLemmas.{all_made, edited_rising}
use Rattle.graph_colours.proofs.NotedLemmas.{noted_is, edit_waits, edit_follows}
use Rattle.graph_colours.proofs.edited.take_in.Goals as goal

pub edit_one-requires-clause-rising : goal.edit_one-requires-clause-rising
edit_one-requires-clause-rising g c =
    let n = g.C.ConstraintId.number in
    let made = rw c.deref-else-can_wait.ensures.value at c.make_all.ensures.items in
    let P : List (Member g.row.C.Denot) → Type 0 = λ l. AreRising n l in
    subst P (sym made) (all_made n c.args.edits.now.items c.args.list.now.items _ c.requires.edited)

pub returns-then-can_wait-clause-items : goal.returns-then-can_wait-clause-items
returns-then-can_wait-clause-items g c =
    let n = g.C.ConstraintId.number in
    let ms = c.args.list.now.items in
    ap (λ (l : List (Edit g.row.C.Denot)). all_edited n l ms) c.note.ensures.items ∙ noted_is n c.args.edit c.args.edits.now.items ms c.requires.edited.rising c.requires.edited.in_order

pub returns-then-can_wait-clause-edited : goal.returns-then-can_wait-clause-edited
returns-then-can_wait-clause-edited g c =
    let n = g.C.ConstraintId.number in
    let ms = c.args.list.now.items in
    let P : List (Edit g.row.C.Denot) → Type 0 = λ l. IsEdited n ms l (vec_capacity c.args.list.now) in
    subst P (sym c.note.ensures.items) (edit_waits n c.args.edits.now.items c.args.edit ms _ c.requires.edited (c.if-can_wait.ensures.room refl))

pub returns-else-can_wait-clause-edited : goal.returns-else-can_wait-clause-edited
returns-else-can_wait-clause-edited g c =
    let n = g.C.ConstraintId.number in
    let made = rw c.deref-else-can_wait.ensures.value at c.make_all.ensures.items in
    let old : List (Member g.row.C.Denot) = all_edited n c.args.edits.now.items c.args.list.now.items in
    let now = c.edit_one.new.list in
    let is = c.edit_one.ensures.items ∙ ap (λ (l : List (Member g.row.C.Denot)). edited n c.args.edit l) made in
    edit_follows n c.clear.new.self.items (edited n c.args.edit old) now.items _ (edited_rising n c.args.edit old (all_made n c.args.edits.now.items c.args.list.now.items _ c.requires.edited)) c.clear.ensures.items is (omega (arith, now.ok.0, now.ok.1))
