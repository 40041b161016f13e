use Rattle.world_core.proofs.NamedLaws.{stirring}
use Rattle.world_core.proofs.collide.BodyShapesShapesById.carried.Goals as goal

pub returns-clause-stirring : goal.returns-clause-stirring
returns-clause-stirring c = rw (← c.self.view_is) (λ n on. stirring c.self.inside.table.bodies n c.self.invariant.all on)
