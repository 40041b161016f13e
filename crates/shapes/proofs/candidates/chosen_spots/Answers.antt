use Rattle.std.proofs.Common.{◌∙◌}
use Rattle.shapes.proofs.ChoiceLemmas.{chosen_are}
use Rattle.shapes.proofs.candidates.chosen_spots.Goals as goal

pub returns-clause-value : goal.returns-clause-value
returns-clause-value c = c.chosen_of_all.ensures.value ∙ chosen_are c.args.pair.now
