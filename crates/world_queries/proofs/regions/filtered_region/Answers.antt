use Rattle.std.proofs.Common.{List, Option, ap, ◌∙◌}
use Rattle.plain_world.specs.declared.body.Body.{Body}
use Rattle.world_queries.proofs.AllHitsLaws.{region_through}
use Rattle.world_queries.specs.Filters.{lets_through, names_through}
use Rattle.world_queries.specs.Posed.{posed_shapes}
use Rattle.world_queries.proofs.regions.filtered_region.Goals as goal

pub returns-clause-shapes : goal.returns-clause-shapes
returns-clause-shapes c =
    c.in_ok-names_through.ensures.names
    ∙ ap (λ (bodies : List (Option Body)). names_through c.args.filter bodies c.deref.result.now) c.bodies.ensures.bodies
    ∙ ap (names_through c.args.filter c.args.world.now.plain.bodies) (c.deref.ensures.value ∙ c.in_ok-found.ensures.shapes)
    ∙ region_through c.args.bounds.now (lets_through c.args.filter c.args.world.now.plain.bodies) (posed_shapes c.args.world.now.plain.bodies)
