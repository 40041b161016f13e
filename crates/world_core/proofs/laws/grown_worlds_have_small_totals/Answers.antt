use Rattle.world_core.proofs.GrownLaws.{grown_worlds_have_small_totals}
use Rattle.world_core.proofs.laws.grown_worlds_have_small_totals.Goals as goal

pub returns : goal.returns
returns c = grown_worlds_have_small_totals
