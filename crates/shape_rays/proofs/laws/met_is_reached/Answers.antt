use Rattle.shape_rays.proofs.MeetingLemmas.{met_is_reached}
use Rattle.shape_rays.proofs.laws.met_is_reached.Goals as goal

pub returns : goal.returns
returns c = λ r n d b p l h. met_is_reached r n d b (record { some = p; low = l; high = h })
