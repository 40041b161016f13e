use Rattle.shape_rays.proofs.BoxLaws.{in_the_box}
use Rattle.shape_rays.proofs.laws.a_hit_lies_in_the_box.Goals as goal

pub returns : goal.returns
returns c = in_the_box
