use Rattle.std.proofs.Common.{List, sym, subst}
use Rattle.graph_colours.specs.declared.member.Member.{Member}
use Rattle.graph_colours.specs.Members.{AreRising}
use Rattle.graph_colours.proofs.ListLemmas.{rising_without}
use Rattle.graph_colours.proofs.edits.edit_one.Goals as goal

pub insert-requires-clause-rising : goal.insert-requires-clause-rising
insert-requires-clause-rising g c =
    let n = g.C.ConstraintId.number in
    let P : List (Member g.row.C.Denot) → Type 0 = λ l. AreRising n l in
    subst P (sym c.remove.ensures.items) (rising_without n c.args.edit.member.id c.args.list.now.items c.requires.rising)
