use Rattle.std.proofs.Common.{List, length, ap, arith}
use Rattle.std.proofs.lemmas.Bool.{false≢true}
use Rattle.graph_colours.specs.declared.member.Member.{Member}
use Rattle.graph_colours.specs.Colours.{all_members}
use Rattle.graph_colours.specs.Graph.{lists_of}
use Rattle.graph_colours.proofs.ColouringLemmas.{released_own, released_others, released_members}
use Rattle.graph_colours.proofs.SizeLemmas.{released_size}
use Rattle.graph_colours.proofs.colours.Colours.release.Goals as goal

pub invariant_of-self : goal.invariant_of-self
invariant_of-self g c = record { graph = c.release_in-self-inside.ensures.graph; rest = λ q. absurd (false≢true q) }

pub returns-clause-lists : goal.returns-clause-lists
returns-clause-lists g c = rw (← c.self.view_is) c.release_in-self-inside.ensures.lists

pub returns-clause-keeps : goal.returns-clause-keeps
returns-clause-keeps g c = (invariant_of-self g c).graph.colouring

pub returns-clause-own : goal.returns-clause-own
returns-clause-own g c = rw (returns-clause-lists g c) (released_own g.C.ConstraintId.number c.args.id c.args.self.now.lists)

pub returns-clause-others : goal.returns-clause-others
returns-clause-others g c = λ other far. rw (returns-clause-lists g c) (released_others g.C.ConstraintId.number c.args.id c.args.self.now.lists other far)

pub returns-clause-members : goal.returns-clause-members
returns-clause-members g c = rw (returns-clause-lists g c) (released_members g.C.ConstraintId.number c.args.id c.args.self.now.lists)

pub returns-clause-room : goal.returns-clause-room
returns-clause-room g c =
    let new = c.release_in-self-inside.ensures.graph in
    let old = c.self.invariant.graph in
    let lists : List (List (Member g.row.C.Denot)) = lists_of c.self.inside.lists.items in
    let fewer = released_size g.C.ConstraintId.number c.args.id lists in
    let same = ap (λ (ls : List (List (Member g.row.C.Denot))). length (all_members ls)) c.release_in-self-inside.ensures.lists in
    rw (← c.self.view_is) (omega (arith, new.members, new.few, old.members, old.few, same, fewer, c.release_in-self-inside.ensures.total))

pub returns-clause-total : goal.returns-clause-total
returns-clause-total g c =
    let new = c.release_in-self-inside.ensures.graph in
    let old = c.self.invariant.graph in
    let is = ap (λ (ls : List (List (Member g.row.C.Denot))). length (all_members ls)) c.release_in-self-inside.ensures.lists in
    rw (← c.self.view_is) (omega (arith, new.members, new.few, old.members, old.few, is, c.release_in-self-inside.ensures.total))
