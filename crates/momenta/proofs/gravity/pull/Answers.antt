use Rattle.std.proofs.Common.{rules}
use Rattle.momenta.specs.Motions.{pulled}
use Rattle.momenta.proofs.gravity.pull.Goals as goal

pub returns-clause-value : goal.returns-clause-value
unfolding pulled
returns-clause-value c = search rules
