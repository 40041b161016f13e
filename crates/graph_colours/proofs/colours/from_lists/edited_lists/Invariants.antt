use Rattle.std.proofs.Common.{◌≡◌, take}
use Rattle.graph_colours.specs.Given.{members_of}
use Rattle.graph_colours.specs.Graph.{lists_of, AreAtRest}
use Rattle.graph_colours.proofs.colours.from_lists.edited_lists.Given as goal

abbrev pub invariant-loop-place : goal.invariant-loop-place
invariant-loop-place g l = record {
  lists : lists_of l.made.items ≡ take l.place (members_of l.lists);
  rest : AreAtRest l.made.items;
}
