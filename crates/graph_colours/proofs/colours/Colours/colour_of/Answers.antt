use Rattle.std.proofs.Common.{◌≡◌, ◌+◌, ◌<◌, ◌≤◌, arith, rules, length, Bool}
use Rattle.std.specs.List.{position_or_len}
use Rattle.graph_colours.specs.declared.limits.TheConstants.{COLOURS}
use Rattle.graph_colours.specs.FoundMembers.{has_id}
use Rattle.graph_colours.specs.Edits.{Pended}
use Rattle.graph_colours.proofs.StepLemmas.{lists_count}
use Rattle.graph_colours.proofs.GraphLemmas.{in_list, in_none}
use Rattle.graph_colours.proofs.colours.Colours.colour_of.Goals as goal

pub overflow_cast-result : goal.overflow_cast-result
overflow_cast-result g c =
    let n : length c.self.inside.lists.items ≡ COLOURS + 1 = lists_count g.C.ConstraintId.number c.self.inside.lists.items c.self.invariant.graph.colouring in
    let lt : c.first_with-colour.result < COLOURS + 1 = omega (arith, n, c.if-colour-len.true, c.len.ensures, c.self.inside.lists.ok.0) in
    search (rules, lt)

pub returns-then-colour-len : goal.returns-then-colour-len
returns-then-colour-len g c =
    let q : Pended g.row.C.Denot → Bool = λ l. has_id g.C.ConstraintId.number c.args.id l.items in
    let ks = c.self.inside.lists.items in
    let e = rw c.deref.ensures.value at c.first_with-colour.ensures in
    let lt : position_or_len q ks < length ks = omega (arith, e, c.if-colour-len.true, c.len.ensures, c.self.inside.lists.ok.0) in
    rw (← c.self.view_is, e) (in_list g.C.ConstraintId.number c.args.id ks lt)

pub returns-else-colour-len : goal.returns-else-colour-len
returns-else-colour-len g c =
    let q : Pended g.row.C.Denot → Bool = λ l. has_id g.C.ConstraintId.number c.args.id l.items in
    let ks = c.self.inside.lists.items in
    let e = rw c.deref.ensures.value at c.first_with-colour.ensures in
    let le : length ks ≤ position_or_len q ks = omega (arith, e, c.if-colour-len.false, c.len.ensures, c.self.inside.lists.ok.0) in
    rw (← c.self.view_is) (in_none g.C.ConstraintId.number c.args.id ks le)
