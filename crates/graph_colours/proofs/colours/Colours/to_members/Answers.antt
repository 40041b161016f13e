use Rattle.std.proofs.Common.{◌≡◌, ◌+◌, length, arith}
use Rattle.graph_colours.specs.declared.limits.TheConstants.{COLOURS}
use Rattle.graph_colours.proofs.StepLemmas.{lists_count}
use Rattle.graph_colours.proofs.colours.Colours.to_members.Goals as goal

pub index-requires : goal.index-requires
index-requires g c =
    let n : length c.self.inside.lists.items ≡ COLOURS + 1 = lists_count g.C.ConstraintId.number c.self.inside.lists.items c.self.invariant.graph.colouring in
    omega (arith, n, c.requires, c.self.inside.lists.ok.0)
