use Rattle.std.proofs.Common.{ap, sym, ◌∙◌, subst}
use Rattle.shapes.specs.Rays.{IsBeam}
use Rattle.world_queries.specs.Filters.{lets_through}
use Rattle.world_queries.proofs.ByBoxesLaws.{hit_of, hits_within, first_of_tree}
use Rattle.world_queries.proofs.rays.first_through.Goals as goal

pub first_on_ray-requires : goal.first_on_ray-requires
first_on_ray-requires c =
    hits_within c.new-cast.result (lets_through c.args.filter.now c.args.world.now.plain.bodies) c.args.world.now.plain.bodies c.tree-tree.result.now
    (subst IsBeam (sym c.new-cast.ensures) c.requires)
    c.tree-tree.ensures.sound.formed.bodies c.tree-tree.ensures.covered

pub returns-in-None : goal.returns-in-None
returns-in-None c =
    ap (hit_of c.new-cast.result (lets_through c.args.filter.now c.args.world.now.plain.bodies) c.args.world.now.plain.bodies) (sym c.in-None.is)
    ∙ first_of_tree c.new-cast.result _ (lets_through c.args.filter.now c.args.world.now.plain.bodies) c.args.world.now.plain.bodies c.tree-tree.result.now
    c.first_on_ray.result c.new-cast.ensures
    c.tree-tree.ensures.sound.formed.bodies c.tree-tree.ensures.covered c.first_on_ray.ensures

pub returns-in-Some : goal.returns-in-Some
returns-in-Some c =
    c.hit_at_slot.ensures
    ∙ ap (hit_of c.new-cast.result (lets_through c.args.filter.now c.args.world.now.plain.bodies) c.args.world.now.plain.bodies) (sym c.in-Some.is)
    ∙ first_of_tree c.new-cast.result _ (lets_through c.args.filter.now c.args.world.now.plain.bodies) c.args.world.now.plain.bodies c.tree-tree.result.now
    c.first_on_ray.result c.new-cast.ensures
    c.tree-tree.ensures.sound.formed.bodies c.tree-tree.ensures.covered c.first_on_ray.ensures
