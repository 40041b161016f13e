use Rattle.std.proofs.Common.{sym}
use Rattle.shapes.specs.Rays.{beam_of}
use Rattle.shape_rays.proofs.SurfaceLemmas.{hit_near}
use Rattle.shape_rays.proofs.surfaces.ray_on_shape.Goals as goal

pub normal_at-requires-clause-near : goal.normal_at-requires-clause-near
normal_at-requires-clause-near c =
    rw c.point_at-point.ensures.value (hit_near c.args.shape.now c.args.pose (beam_of c.args.from c.args.along) c.in_ok-fraction.fraction c.requires.shape c.requires.pose c.requires.ray (sym c.in_ok-fraction.ensures.value))
