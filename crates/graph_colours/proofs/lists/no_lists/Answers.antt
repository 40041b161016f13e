use Rattle.std.proofs.Common.{◌≡◌, ◌+◌, replicate, [], ap, ◌∙◌, arith, List}
use Rattle.graph_colours.specs.declared.limits.TheConstants.{COLOURS}
use Rattle.graph_colours.specs.declared.member.Member.{Member}
use Rattle.graph_colours.proofs.lists.no_lists.Goals as goal

pub returns-clause-lists : goal.returns-clause-lists
returns-clause-lists g c =
    let n : c.loop-made._made ≡ COLOURS + 1 = omega (arith, c.loop-made-test.false, c.loop-made.auto._made-end) in
    let none : List (Member g.row.C.Denot) = [] in
    c.loop-made.invariant.lists ∙ ap (λ k. replicate k none) n
