use Rattle.world_file.proofs.FirstBroken.{asking_finds_the_first}
use Rattle.world_file.proofs.laws.asking_finds_the_first.Goals as goal

pub returns : goal.returns
returns c = asking_finds_the_first
