use Rattle.shape_rays.proofs.BoxLaws.{missed}
use Rattle.shape_rays.proofs.laws.what_is_not_reached_is_missed.Goals as goal

pub returns : goal.returns
returns c = missed
