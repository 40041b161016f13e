use Rattle.shape_rays.proofs.WayLemmas.{missed_within}
use Rattle.shape_rays.proofs.laws.misses_within.Goals as goal

pub returns : goal.returns
returns c = missed_within
