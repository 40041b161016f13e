use Rattle.std.proofs.Common.{sym}
use Rattle.world_core_base.proofs.joint_row.joint_row_at.Goals as goal

pub ends_of-ends-requires-clause-first : goal.ends_of-ends-requires-clause-first
ends_of-ends-requires-clause-first c = (c.requires.joint c.in-Some.joint.now (sym c.in-Some.ensures)).first

pub ends_of-ends-requires-clause-second : goal.ends_of-ends-requires-clause-second
ends_of-ends-requires-clause-second c = (c.requires.joint c.in-Some.joint.now (sym c.in-Some.ensures)).second
