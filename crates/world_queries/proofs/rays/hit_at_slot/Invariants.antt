use Rattle.std.proofs.Common.{◌≡◌}
use Rattle.plain_world.specs.Slots.{body_at}
use Rattle.shape_rays.specs.Hits.{nearer}
use Rattle.world_queries.specs.Filters.{lets_through}
use Rattle.world_queries.specs.Posed.{shapes_at}
use Rattle.world_queries.proofs.PosedLaws.{left_at}
use Rattle.world_queries.proofs.ThroughLaws.{first_through}
use Rattle.world_queries.proofs.rays.hit_at_slot.Given as goal

abbrev pub invariant-loop-index : goal.invariant-loop-index
invariant-loop-index l = record {
  rest : nearer l.best (first_through l.cast (lets_through l.filter l.world.plain.bodies) (left_at l.slot l.index (body_at l.world.plain.bodies l.slot)))
      ≡ first_through l.fn.cast (lets_through l.fn.filter l.fn.world.plain.bodies) (shapes_at l.fn.slot (body_at l.fn.world.plain.bodies l.fn.slot));
}
