use Rattle.std.proofs.Common.{◌∙◌}
use Rattle.shapes.proofs.PointLemmas.{points_are, alone_at}
use Rattle.shapes.proofs.candidates.chosen_of_points.Goals as goal

pub returns-clause-value : goal.returns-clause-value
returns-clause-value c = c.alone.ensures.value ∙ alone_at c.args.pair.now c.of_a.ensures.value ∙ points_are c.args.pair.now c.requires.first c.requires.second
