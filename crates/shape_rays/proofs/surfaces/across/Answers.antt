use Rattle.std.proofs.Common.{refl}
use Rattle.shapes.specs.Spots.{across}
use Rattle.shape_rays.proofs.SurfaceLemmas.{wide_way}
use Rattle.shape_rays.proofs.surfaces.across.Goals as goal

pub unit-requires-clause-nonzero : goal.unit-requires-clause-nonzero
unit-requires-clause-nonzero c = rw (c.square_to.ensures.same, c.minus.ensures.value) (wide_way c.args.core.now c.requires.wide)

pub returns-clause-value : goal.returns-clause-value
unfolding across
returns-clause-value c = rw (c.unit.ensures.value, c.square_to.ensures.value, c.minus.ensures.value) refl
