use Rattle.std.proofs.Common.{◌≡◌, ◌++◌, drop}
use Rattle.std.specs.List.{filter_map}
use Rattle.world_queries.specs.AllHits.{hit_named}
use Rattle.world_queries.specs.Filters.{lets_through}
use Rattle.world_queries.proofs.hit_lists.hits_among.Given as goal

abbrev pub invariant-loop-id : goal.invariant-loop-id
invariant-loop-id l =
    let at = hit_named l.cast (lets_through l.filter l.world.plain.bodies) l.world.plain.bodies in
    l.hits.items ++ filter_map at (drop l.id-index l.ids) ≡ filter_map at l.ids
