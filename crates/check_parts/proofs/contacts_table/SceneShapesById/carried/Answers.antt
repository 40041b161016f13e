use Rattle.std.proofs.Common.{inr, refl}
use Rattle.check_parts.proofs.SceneLaws.{slot_of}
use Rattle.check_parts.proofs.contacts_table.SceneShapesById.carried.Goals as goal

pub returns-clause-stirring : goal.returns-clause-stirring
returns-clause-stirring c = rw (← c.self.view_is) (λ n on. inr (slot_of c.self.inside.shapes c.self.inside.slots.items n _ c.self.invariant refl on))
