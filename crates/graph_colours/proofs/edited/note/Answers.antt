use Rattle.std.proofs.Common.{◌≡◌, sym, ◌∙◌, arith}
use Rattle.std.proofs.lemmas.Grind.{common_steps}
use Rattle.std.specs.List.{insert}
use Rattle.graph_colours.proofs.NotedLemmas.{noted_over, noted_between}
use Rattle.graph_colours.proofs.edited.note.Goals as goal

pub returns-then-is_edit_at : goal.returns-then-is_edit_at
returns-then-is_edit_at g c =
    let at = rw (c.number.ensures, c.deref.ensures.value) at (sym c.is_edit_at.ensures ∙ c.if-is_edit_at.true) in
    record { items = noted_over g.C.ConstraintId.number c.args.edit c.args.edits.now.items c.args.place c.requires.before at }

pub returns-else-is_edit_at : goal.returns-else-is_edit_at
returns-else-is_edit_at g c =
    let es = c.args.edits.now.items in
    let at = rw (c.number.ensures, c.deref.ensures.value) at (sym c.is_edit_at.ensures ∙ c.if-is_edit_at.false) in
    let put : c.insert.new.self.items ≡ insert es c.args.place c.args.edit = grind (arith, common_steps) in
    record { items = put ∙ noted_between g.C.ConstraintId.number c.args.edit es c.args.place c.requires.before c.requires.after c.requires.place at }
