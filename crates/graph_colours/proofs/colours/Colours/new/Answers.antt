use Rattle.graph_colours.proofs.EmptyLemmas.{graph_of_none}
use Rattle.graph_colours.proofs.colours.Colours.new.Goals as goal

pub invariant_of-result : goal.invariant_of-result
invariant_of-result g c = record {
  graph = graph_of_none g.C.ConstraintId.number c.in_ok-no_lists.field-0.items c.new.result.items c.in_ok-no_lists.ensures.lists c.new.ensures.items;
  rest = λ q. c.in_ok-no_lists.ensures.rest;
}
