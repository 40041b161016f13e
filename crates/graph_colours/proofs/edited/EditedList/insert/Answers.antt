use Rattle.std.proofs.Common.{List, length, ap, ◌∙◌, arith}
use Rattle.graph_colours.specs.declared.member.Member.{Member}
use Rattle.graph_colours.specs.Edits.{all_edited}
use Rattle.graph_colours.proofs.NotedLemmas.{one_more, inserted_count}
use Rattle.graph_colours.proofs.edited.EditedList.insert.Goals as goal

pub invariant_of-self : goal.invariant_of-self
invariant_of-self g c =
    let n = g.C.ConstraintId.number in
    let a = c.self.inside in
    let old : List (Member g.row.C.Denot) = all_edited n a.edits.items a.list.items in
    let absent = rw (← c.self.view_is) at c.requires.absent in
    let is = c.take_in.ensures.items ∙ one_more n c.args.member old absent in
    let long = ap (λ (l : List (Member g.row.C.Denot)). length l) is ∙ inserted_count n c.args.member old in
    record { edited = c.take_in.ensures.edited; counted = omega (arith, long, c.self.invariant.counted) }

pub returns-clause-items : goal.returns-clause-items
returns-clause-items g c =
    let n = g.C.ConstraintId.number in
    let a = c.self.inside in
    let old : List (Member g.row.C.Denot) = all_edited n a.edits.items a.list.items in
    let absent = rw (← c.self.view_is) at c.requires.absent in
    rw (← c.self.view_is) (c.take_in.ensures.items ∙ one_more n c.args.member old absent)
