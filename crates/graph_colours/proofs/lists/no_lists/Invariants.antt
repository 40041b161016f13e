use Rattle.std.proofs.Common.{◌≡◌, replicate, []}
use Rattle.graph_colours.specs.Graph.{lists_of, AreAtRest}
use Rattle.graph_colours.proofs.lists.no_lists.Given as goal

abbrev pub invariant-loop-made : goal.invariant-loop-made
invariant-loop-made g l = record {
  lists : lists_of l.lists.items ≡ replicate l._made [];
  rest : AreAtRest l.lists.items;
}
