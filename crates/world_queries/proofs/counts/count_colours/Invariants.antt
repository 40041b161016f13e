use Rattle.std.proofs.Common.{◌≡◌, ◌+◌, ◌≤◌, drop}
use Rattle.std.specs.List.{count_by}
use Rattle.graph_colours.specs.Colours.{ids_of}
use Rattle.world_queries.specs.Counts.{has_some}
use Rattle.world_queries.proofs.counts.count_colours.Given as goal

abbrev pub invariant-loop-colour : goal.invariant-loop-colour
invariant-loop-colour l = record {
  few : l.count ≤ l.colour;
  rest : l.count + count_by has_some (ids_of (drop l.colour l.colours.lists)) ≡ count_by has_some (ids_of l.colours.lists);
}
