use Rattle.shape_rays.proofs.HitLemmas.{first_of_parts}
use Rattle.shape_rays.proofs.laws.parts_give_the_first.Goals as goal

pub returns : goal.returns
returns c = first_of_parts
