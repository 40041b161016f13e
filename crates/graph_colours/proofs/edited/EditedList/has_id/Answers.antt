use Rattle.std.proofs.Common.{◌∙◌}
use Rattle.graph_colours.proofs.NotedLemmas.{has_with}
use Rattle.graph_colours.proofs.edited.EditedList.has_id.Goals as goal

pub returns : goal.returns
returns g c =
    let found = rw c.number.ensures at c.with_number.ensures in
    c.is_some.ensures ∙ rw found (has_with g.C.ConstraintId.number c.args.id c.args.self.now.items)
