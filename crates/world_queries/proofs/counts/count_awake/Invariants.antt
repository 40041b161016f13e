use Rattle.std.proofs.Common.{◌≡◌, ◌+◌, ◌≤◌, drop}
use Rattle.std.specs.List.{count_by}
use Rattle.plain_world.specs.Changes.{is_awake_in}
use Rattle.world_queries.proofs.counts.count_awake.Given as goal

abbrev pub invariant-loop-entry : goal.invariant-loop-entry
invariant-loop-entry l = record {
  few : l.count ≤ l.entry-index;
  rest : l.count + count_by is_awake_in (drop l.entry-index l.bodies) ≡ count_by is_awake_in l.bodies;
}
