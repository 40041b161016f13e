use Rattle.std.proofs.Common.{◌≡◌, ◌++◌, drop}
use Rattle.world_queries.specs.Filters.{names_through}
use Rattle.world_queries.proofs.regions.names_through.Given as goal

abbrev pub invariant-loop-id : goal.invariant-loop-id
invariant-loop-id l = l.kept.items ++ names_through l.filter l.bodies (drop l.id-index l.ids) ≡ names_through l.filter l.bodies l.ids
