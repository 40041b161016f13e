use Rattle.std.proofs.Common.{refl}
use Rattle.shapes.specs.Discs.{disc_point}
use Rattle.shapes.proofs.discs.disc_point.Goals as goal

pub returns : goal.returns
unfolding disc_point
returns c = rw (c.point_of.ensures, c.spot_in_place-spot.ensures.value, c.disc_pair.ensures.value, c.measured.ensures.value) refl
