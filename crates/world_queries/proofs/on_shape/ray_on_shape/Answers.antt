use Rattle.shapes.specs.Rays.{beam_of}
use Rattle.plain_world.specs.Slots.{body_at}
use Rattle.world_queries.proofs.OnShapeLaws.{found_hit}
use Rattle.world_queries.proofs.on_shape.ray_on_shape.Goals as goal

pub returns : goal.returns
returns c = rw (c.hit_of.ensures, c.posed_shape.ensures.value) (found_hit (beam_of c.args.from c.args.along) c.args.id (body_at c.args.world.now.plain.bodies c.args.id.slot))
