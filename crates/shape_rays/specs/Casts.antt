-- What a ray that is sent among shapes keeps.
use Rattle.std.specs.Prelude.{◌≡◌}
use Rattle.shapes.specs.Rays.{IsBeam, beam_of}
use Rattle.shape_rays.specs.declared.cast.RayCast.TheInside.{Inside}
use Rattle.shape_rays.specs.Reach.{box_round}

pub record IsRayCast (a : Inside) : Type 0 where
  pub beam : IsBeam (beam_of a.from a.along)
  pub around : a.around ≡ box_round (beam_of a.from a.along)
