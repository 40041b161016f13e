use Rattle.std.proofs.Common.{sym, ltb-true, ltb-false}
use Rattle.graph_colours.proofs.NotedLemmas.{edit_at_front, no_edit_at_end}
use Rattle.graph_colours.proofs.edited.is_edit_at.Goals as goal

pub returns-in-Some : goal.returns-in-Some
returns-in-Some g c = rw c.number.ensures (edit_at_front g.C.ConstraintId.number c.args.edits.now c.args.place c.args.number c.in-Some.edit.now (ltb-true _ _ (sym c.in-Some.ensures.lookup.0)) c.in-Some.ensures.lookup.1)

pub returns-in-None : goal.returns-in-None
returns-in-None g c = no_edit_at_end g.C.ConstraintId.number c.args.edits.now c.args.place c.args.number (ltb-false _ _ (sym c.in-None.ensures.lookup.0))
