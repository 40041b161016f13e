use Rattle.std.proofs.Common.{◌≡◌, List, sym, subst}
use Rattle.std.proofs.lemmas.Grind.{common_steps}
use Rattle.std.proofs.Common.{arith}
use Rattle.graph_colours.specs.declared.member.Member.{Member}
use Rattle.graph_colours.specs.Members.{AreRising}
use Rattle.graph_colours.specs.Edits.{all_edited}
use Rattle.graph_colours.proofs.EditLemmas.{all_made}
use Rattle.graph_colours.proofs.edited.EditedList.to_members.Goals as goal

pub returns-clause-rising : goal.returns-clause-rising
returns-clause-rising g c =
    let n = g.C.ConstraintId.number in
    let a = c.self.inside in
    let is : c.pass.new.list.items ≡ all_edited n a.edits.items a.list.items = grind (arith, common_steps) in
    let P : List (Member g.row.C.Denot) → Type 0 = λ l. AreRising n l in
    subst P (sym is) (all_made n a.edits.items a.list.items _ c.self.invariant.edited)
