use Rattle.std.proofs.Common.{◌≡◌, ◌≤◌, ◌+◌, arith, rules, length}
use Rattle.std.proofs.lemmas.Bool.{false≢true}
use Rattle.graph_colours.specs.declared.limits.TheConstants.{COLOURS}
use Rattle.graph_colours.specs.declared.member.Member.{Member}
use Rattle.graph_colours.specs.Graph.{lists_of}
use Rattle.graph_colours.specs.Colours.{all_members, with_placed, IsColouring}
use Rattle.graph_colours.proofs.ColouringLemmas.{placed_own, placed_others, placed_members}
use Rattle.graph_colours.proofs.SizeLemmas.{placed_size}
use Rattle.graph_colours.proofs.colours.Colours.place.Goals as goal

pub overflow_cast-result : goal.overflow_cast-result
overflow_cast-result g c = let le : c.place_in-colour.result ≤ COLOURS = c.place_in-colour.ensures.most in search (rules, le)

pub invariant_of-self : goal.invariant_of-self
invariant_of-self g c = record { graph = c.place_in-colour.ensures.graph; rest = λ q. absurd (false≢true q) }

pub returns-clause-colour : goal.returns-clause-colour
returns-clause-colour g c = rw (← c.self.view_is) c.place_in-colour.ensures.colour

pub returns-clause-lists : goal.returns-clause-lists
returns-clause-lists g c = rw (← c.self.view_is) c.place_in-colour.ensures.lists

pub returns-clause-keeps : goal.returns-clause-keeps
returns-clause-keeps g c = (invariant_of-self g c).graph.colouring

pub returns-clause-own : goal.returns-clause-own
returns-clause-own g c =
    let m : Member g.row.C.Denot = record { id = c.args.id; movers = c.args.movers } in
    let keeps : IsColouring g.C.ConstraintId.number c.args.self.now.lists = rw (← c.self.view_is) c.self.invariant.graph.colouring in
    rw (returns-clause-lists g c, returns-clause-colour g c) (placed_own g.C.ConstraintId.number m c.args.self.now.lists keeps c.requires.absent)

pub returns-clause-others : goal.returns-clause-others
returns-clause-others g c = λ other far.
    let m : Member g.row.C.Denot = record { id = c.args.id; movers = c.args.movers } in
    rw (returns-clause-lists g c) (placed_others g.C.ConstraintId.number m c.args.self.now.lists other far)

pub returns-clause-members : goal.returns-clause-members
returns-clause-members g c =
    let m : Member g.row.C.Denot = record { id = c.args.id; movers = c.args.movers } in
    let keeps : IsColouring g.C.ConstraintId.number c.args.self.now.lists = rw (← c.self.view_is) c.self.invariant.graph.colouring in
    rw (returns-clause-lists g c) (placed_members g.C.ConstraintId.number m c.args.self.now.lists keeps)

pub returns-clause-room : goal.returns-clause-room
returns-clause-room g c = let one = rw (← c.self.view_is) at c.requires.room in rw (← c.self.view_is) (omega (arith, one))

pub returns-clause-total : goal.returns-clause-total
returns-clause-total g c =
    let a = c.self.inside in
    let m : Member g.row.C.Denot = record { id = c.args.id; movers = c.args.movers } in
    let is = c.place_in-colour.ensures.lists in
    let more : length (all_members (with_placed g.C.ConstraintId.number m (lists_of a.lists.items))) ≡ length (all_members (lists_of a.lists.items)) + 1 = placed_size g.C.ConstraintId.number m (lists_of a.lists.items) c.self.invariant.graph.colouring in
    let one = rw (← c.self.view_is) at c.requires.room in
    rw (← c.self.view_is, is) (omega (arith, more, one))
