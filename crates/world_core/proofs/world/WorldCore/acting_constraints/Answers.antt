use Rattle.std.proofs.Common.{◌∙◌}
use Rattle.world_core.proofs.ColourLaws.{members_counted}
use Rattle.world_core.proofs.world.WorldCore.acting_constraints.Goals as goal

pub returns : goal.returns
returns c = rw (← c.self.view_is) ((rw c.colours.ensures.lists at c.count.ensures.value) ∙ members_counted c.self.inside.activity.sets.acting.lists)
