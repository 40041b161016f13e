use Rattle.world_core.proofs.Refusals.{handed_on}
use Rattle.world_core.proofs.world.loading.load_constraints.Goals as goal

pub returns-in_err-sets_of-clause-memory_only : goal.returns-in_err-sets_of-clause-memory_only
returns-in_err-sets_of-clause-memory_only c = handed_on c.from_residual-in_err-sets_of.result c.in_err-sets_of.field-0.0 (c.from_residual-in_err-sets_of.ensures).0 (c.from_residual-in_err-sets_of.ensures).1 c.in_err-sets_of.ensures.memory_only
