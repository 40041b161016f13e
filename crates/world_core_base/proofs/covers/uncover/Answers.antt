use Rattle.std.proofs.Common.{None, refl}
use Rattle.world_core_base.proofs.CoverLaws.{other_put}
use Rattle.world_core_base.proofs.covers.uncover.Goals as goal

pub returns-then-is_some-clause-others : goal.returns-then-is_some-clause-others
returns-then-is_some-clause-others c = other_put c.args.boxes.now c.args.boxes.now c.remove.new.self c.args.slot None (λ s. refl) c.remove.ensures
