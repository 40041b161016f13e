use Rattle.std.proofs.Common.{◌≡◌, ◌+◌, ◌<◌, length, refl, ◌∙◌, arith}
use Rattle.graph_colours.specs.declared.limits.TheConstants.{COLOURS}
use Rattle.graph_colours.proofs.StepLemmas.{lists_count, items_at, rest_at}
use Rattle.graph_colours.proofs.GraphLemmas.{rising_at, apart_at, flushed_is}
use Rattle.graph_colours.proofs.colours.Colours.members.Goals as goal

pub index-requires : goal.index-requires
index-requires g c =
    let n : length c.self.inside.lists.items ≡ COLOURS + 1 = lists_count g.C.ConstraintId.number c.self.inside.lists.items c.self.invariant.graph.colouring in
    omega (arith, n, c.requires.colour, c.self.inside.lists.ok.0)

pub as_slice-requires : goal.as_slice-requires
as_slice-requires g c =
    let ks = c.self.inside.lists.items in
    let n : length ks ≡ COLOURS + 1 = lists_count g.C.ConstraintId.number ks c.self.invariant.graph.colouring in
    let lt : c.args.colour < length ks = omega (arith, n, c.requires.colour) in
    let none = rw (← c.self.view_is) at c.requires.flushed in
    rest_at ks c.args.colour c.index.result.now lt c.index.ensures (c.self.invariant.rest (flushed_is c.self.inside.flushed _ refl none))

pub returns-clause-value : goal.returns-clause-value
returns-clause-value g c =
    let ks = c.self.inside.lists.items in
    let n : length ks ≡ COLOURS + 1 = lists_count g.C.ConstraintId.number ks c.self.invariant.graph.colouring in
    let lt : c.args.colour < length ks = omega (arith, n, c.requires.colour) in
    rw (← c.self.view_is) (c.as_slice.ensures.value ∙ items_at ks c.args.colour c.index.result.now lt c.index.ensures)

pub returns-clause-colouring : goal.returns-clause-colouring
returns-clause-colouring g c = rw (← c.self.view_is) c.self.invariant.graph.colouring

pub returns-clause-rising : goal.returns-clause-rising
returns-clause-rising g c = rising_at g.C.ConstraintId.number c.args.self.now.lists c.args.colour c.as_slice.result.now (returns-clause-colouring g c) c.requires.colour (returns-clause-value g c)

pub returns-clause-apart : goal.returns-clause-apart
returns-clause-apart g c = λ lt. apart_at g.C.ConstraintId.number c.args.self.now.lists c.args.colour c.as_slice.result.now (returns-clause-colouring g c) lt (returns-clause-value g c)
