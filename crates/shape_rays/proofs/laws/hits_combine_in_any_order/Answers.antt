use Rattle.shape_rays.proofs.HitLemmas.{in_any_order}
use Rattle.shape_rays.proofs.laws.hits_combine_in_any_order.Goals as goal

pub returns : goal.returns
returns c = in_any_order
