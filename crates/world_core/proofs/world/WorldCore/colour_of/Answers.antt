use Rattle.std.proofs.Common.{◌∙◌}
use Rattle.world_core.proofs.ColourLaws.{colour_by_ids}
use Rattle.world_core.proofs.world.WorldCore.colour_of.Goals as goal

pub returns : goal.returns
returns c = rw (← c.self.view_is) ((rw c.colours.ensures.lists at c.colour_of.ensures) ∙ colour_by_ids c.args.constraint c.self.inside.activity.sets.acting.lists)
