use Rattle.joint_rows.proofs.CentreLaws.{arm_of_centre}
use Rattle.joint_rows.proofs.row.row_between_centres.Goals as goal

pub row_at-requires-clause-first : goal.row_at-requires-clause-first
row_at-requires-clause-first c = arm_of_centre c.args.joint.now.from c.args.ends.now.a c.requires.from

pub row_at-requires-clause-second : goal.row_at-requires-clause-second
row_at-requires-clause-second c = arm_of_centre c.args.joint.now.to c.args.ends.now.b c.requires.to
