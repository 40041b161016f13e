use Rattle.part_runs.proofs.PassLaws.{passes}
use Rattle.part_runs.proofs.laws.passes_by_parts.Goals as goal

pub returns : goal.returns
returns c = passes
