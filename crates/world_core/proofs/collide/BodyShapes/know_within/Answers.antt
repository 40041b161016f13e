use Rattle.world_core.proofs.NamedLaws.{all_within}
use Rattle.world_core.proofs.collide.BodyShapes.know_within.Goals as goal

pub returns : goal.returns
returns c = rw (← c.self.view_is) (all_within c.self.inside.table.marks c.self.inside.table.bodies c.self.invariant.all (rw c.marks.ensures.value at c.marks.ensures.enough))
