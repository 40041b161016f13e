use Rattle.std.proofs.Common.{refl}
use Rattle.shape_rays.specs.Surfaces.{normal_to}
use Rattle.shape_rays.proofs.surfaces.normal_to.Goals as goal

pub returns : goal.returns
unfolding normal_to
returns c = rw (c.manifold.ensures.value, c.unturned.ensures.value) refl
