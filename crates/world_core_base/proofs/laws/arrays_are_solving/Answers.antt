use Rattle.world_core_base.proofs.SolvingLaws as solving
use Rattle.world_core_base.proofs.laws.arrays_are_solving.Goals as goal

pub returns : goal.returns
returns c = solving.arrays_are_solving
