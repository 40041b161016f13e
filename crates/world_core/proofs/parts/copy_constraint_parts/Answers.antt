use Rattle.world_core.proofs.Refusals.{handed_on}
use Rattle.world_core.proofs.parts.copy_constraint_parts.Goals as goal

pub returns-in_err-try_copy-2-clause-memory_only : goal.returns-in_err-try_copy-2-clause-memory_only
returns-in_err-try_copy-2-clause-memory_only c = handed_on c.from_residual-in_err-try_copy-2.result c.in_err-try_copy-2.field-0.0 (c.from_residual-in_err-try_copy-2.ensures).0 (c.from_residual-in_err-try_copy-2.ensures).1 c.in_err-try_copy-2.ensures.memory_only
