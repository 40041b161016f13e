use Rattle.std.proofs.Common.{◌≡◌, take}
use Rattle.graph_colours.specs.Graph.{lists_of, AreAtRest}
use Rattle.graph_colours.proofs.lists.copies.Given as goal

abbrev pub invariant-loop-place : goal.invariant-loop-place
invariant-loop-place g l = record {
  lists : lists_of l.copied.items ≡ take l.place (lists_of l.lists);
  rest : AreAtRest l.copied.items;
}
