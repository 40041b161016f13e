use Rattle.std.proofs.Common.{◌≡◌, ◌+◌, List, length, refl, arith}
use Rattle.graph_colours.specs.declared.member.Member.{Member}
use Rattle.graph_colours.specs.Colours.{all_members, released}
use Rattle.graph_colours.specs.Graph.{lists_of}
use Rattle.graph_colours.proofs.GraphLemmas.{graph_released}
use Rattle.graph_colours.proofs.SizeLemmas.{released_size}
use Rattle.graph_colours.proofs.colours.release_in.Goals as goal

pub returns-clause-graph : goal.returns-clause-graph
returns-clause-graph g c =
    let n = g.C.ConstraintId.number in
    let ks = c.args.lists.now.items in
    let r = c.remove_from_first-gone in
    let lists : List (List (Member g.row.C.Denot)) = lists_of ks in
    let gone : length (all_members (released n c.args.id lists)) + r.result ≡ length (all_members lists) = rw r.ensures.gone (released_size n c.args.id lists) in
    graph_released n c.args.id ks r.new.lists.items c.args.words.now.items r.new.words.items c.args.size _ r.result c.requires.graph r.ensures.lists r.ensures.bits r.ensures.gone (omega (arith, gone, c.requires.graph.members)) refl refl (r.ensures.kept c.args.size.total c.requires.graph.rooms) r.ensures.long
