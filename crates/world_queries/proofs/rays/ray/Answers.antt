use Rattle.std.proofs.Common.{ap, ◌∙◌}
use Rattle.shapes.specs.Rays.{beam_of}
use Rattle.shape_rays.specs.Hits.{first_hit}
use Rattle.world_queries.specs.Posed.{posed_shapes}
use Rattle.world_queries.proofs.ThroughLaws.{all_through}
use Rattle.world_queries.proofs.rays.ray.Goals as goal

pub returns : goal.returns
returns c = c.first_through.ensures ∙ ap (first_hit (beam_of c.args.from c.args.along)) (all_through (posed_shapes c.args.world.now.plain.bodies))
