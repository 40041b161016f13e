-- The passes of a tick and of its end over constraints: what each does with a row, by which pass it is.
use Rattle.momenta.specs.declared.state.Ends.{Ends}
use Rattle.joint_rows.specs.declared.row.JointRow.{JointRow}
use Rattle.joint_rows.specs.Rows.{joint_solved, joint_warmed}
use Rattle.colour_solver_base.specs.declared.row.ContactRow.{ContactRow}
use Rattle.colour_solver_base.specs.RowsAfter.{RowAfter}
use Rattle.colour_solver_base.specs.Rows.{row_bounced, row_solved, row_warmed}
use Rattle.colour_solver.specs.declared.constraint_row.ConstraintRow.{ConstraintRow}
use Rattle.colour_solver.specs.ConstraintVisits.{both_visits, joint_unbounced, visited_joint}
use Rattle.colour_solver.specs.declared.phase.Phase.{Phase}
use Rattle.colour_solver.specs.declared.phase.Phase.TheVariants.{Bounce, Solve, Warm}

abbrev pub joint_visit : Phase → JointRow → Ends → RowAfter JointRow
joint_visit Warm r e = visited_joint (joint_warmed r e)
joint_visit Solve r e = visited_joint (joint_solved r e)
joint_visit Bounce r e = visited_joint (joint_unbounced r e)

abbrev pub contact_visit : Phase → ContactRow → Ends → RowAfter ContactRow
contact_visit Warm r e = row_warmed r e
contact_visit Solve r e = row_solved r e
contact_visit Bounce r e = row_bounced r e

abbrev pub constraint_visit : Phase → ConstraintRow → Ends → RowAfter ConstraintRow
constraint_visit phase r e = both_visits (joint_visit phase) (contact_visit phase) r e
