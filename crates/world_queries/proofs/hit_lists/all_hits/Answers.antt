use Rattle.std.proofs.Common.{List, ap, sym, ◌∙◌, subst}
use Rattle.std.specs.List.{filter_map}
use Rattle.std.specs.List.Sorted.{IsPermutation}
use Rattle.shape_rays.specs.declared.hits.Hit.{Hit}
use Rattle.fixed_geom.specs.declared.boxes.Box2.{Box2}
use Rattle.shape_rays.specs.Hits.{region}
use Rattle.shapes.specs.Rays.{IsBeam}
use Rattle.shapes.specs.declared.beam.Beam.{Beam}
use Rattle.world_queries.proofs.AllHitsLaws.{all_by_region}
use Rattle.world_queries.specs.AllHits.{hit_named, hits_on}
use Rattle.world_queries.specs.Filters.{lets_through, shapes_through}
use Rattle.world_queries.specs.Posed.{posed_shapes}
use Rattle.world_queries.proofs.hit_lists.all_hits.Goals as goal

pub returns-clause-hits : goal.returns-clause-hits
returns-clause-hits c =
    let near = c.deref.ensures.value ∙ c.in_ok-near.ensures.shapes ∙ ap (λ (b : Box2). region b (posed_shapes c.args.world.now.plain.bodies)) c.around.ensures in
    let hits = c.in_ok-hits.ensures.hits
    ∙ ap (filter_map (hit_named c.new-cast.result (lets_through c.args.filter c.args.world.now.plain.bodies) c.args.world.now.plain.bodies)) near
    ∙ all_by_region c.new-cast.result (lets_through c.args.filter c.args.world.now.plain.bodies) c.args.world.now.plain.bodies (subst IsBeam (sym c.new-cast.ensures) c.requires) c.know_sound.ensures.formed.bodies
    ∙ ap (λ (r : Beam). hits_on r (shapes_through c.args.filter c.args.world.now.plain.bodies)) c.new-cast.ensures in
    record {
      all = subst (λ (found : List Hit). IsPermutation found c.put_in_order.new.hits.items) hits c.put_in_order.ensures.all;
      ascending = c.put_in_order.ensures.ascending;
    }
