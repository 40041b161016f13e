use Rattle.world_file.proofs.ComponentLaws.{merging_makes_components}
use Rattle.world_file.proofs.laws.merging_makes_components.Goals as goal

pub returns : goal.returns
returns c = merging_makes_components
