use Rattle.std.proofs.Common.{◌≡◌, ◌<◌, get_or, length, arith}
use Rattle.std.proofs.lemmas.Grind.{common_steps}
use Rattle.graph_colours.proofs.EditLemmas.{below_first}
use Rattle.graph_colours.proofs.removals.remove_all.Goals as goal

pub remove_from-requires-clause-below : goal.remove_from-requires-clause-below
remove_from-requires-clause-below g c =
    let es = c.args.edits.now in
    let e = c.in-Some.first.now in
    let lt : 0 < length es = grind (arith, common_steps) in
    let is : e ≡ get_or es 0 e = grind (arith, common_steps) in
    let before = rw (c.number.ensures, c.deref.ensures.value) at c.place_from-start.ensures.before in
    below_first g.C.ConstraintId.number es e c.args.list.now.items c.place_from-start.result lt is c.requires.in_order before
