use Rattle.std.proofs.Common.{◌+◌, ◌*◌}
use Rattle.world_core_base.proofs.JointEndLaws.{absent_in_same}
use Rattle.world_core_base.proofs.joint_table.from_joints.add_ends.Goals as goal

pub note_ends-requires-clause-first : goal.note_ends-requires-clause-first
note_ends-requires-clause-first c = absent_in_same c.args.sets.now.sets c.reserve_ends.new.sets.sets (2 * c.args.slot) c.in_ok-reserve_ends.ensures.sets c.requires.first

pub note_ends-requires-clause-second : goal.note_ends-requires-clause-second
note_ends-requires-clause-second c = absent_in_same c.args.sets.now.sets c.reserve_ends.new.sets.sets (2 * c.args.slot + 1) c.in_ok-reserve_ends.ensures.sets c.requires.second
