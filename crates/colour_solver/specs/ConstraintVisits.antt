-- Trusted: the rows of joints and contacts among those that are visited.
use Rattle.std.specs.Prelude.{ℕ, Bool, true, false, List, Option, Some, None}
use Rattle.std.specs.List.{filter_map}
use Rattle.momenta.specs.declared.state.Ends.{Ends}
use Rattle.joint_rows.specs.declared.row.JointBodies.{JointBodies}
use Rattle.joint_rows.specs.declared.row.JointRow.{JointRow}
use Rattle.joint_rows.specs.declared.solve.JointAfter.{JointAfter}
use Rattle.joint_rows.specs.Rows.{IsJointRow, joint_solved, joint_warmed}
use Rattle.colour_solver_base.specs.declared.row.Bodies.{Bodies}
use Rattle.colour_solver_base.specs.declared.row.ContactRow.{ContactRow}
use Rattle.colour_solver_base.specs.RowsAfter.{RowAfter}
use Rattle.colour_solver_base.specs.Rows.{IsRow, row_bounced, row_solved, row_warmed}
use Rattle.colour_solver.specs.declared.row_visits.Slots.{Slots}
use Rattle.colour_solver.specs.declared.constraint_row.ConstraintRow.{ConstraintRow}
use Rattle.colour_solver.specs.declared.constraint_row.ConstraintRow.TheVariants.{Joint, Contact}
use Rattle.colour_solver.specs.RowVisits.{AreRowsOn, IsRowOn}

-- where the two bodies of a joint stand, and those of a contact
abbrev pub joint_slots : JointRow → Slots
joint_slots r = record { a = r.bodies.a; b = r.bodies.b }

abbrev pub contact_slots : ContactRow → Slots
contact_slots r = record { a = r.bodies.a; b = r.bodies.b }

-- where the two bodies of a constraint stand
abbrev pub constraint_slots : ConstraintRow → Slots
constraint_slots (Joint r) = record { a = r.bodies.a; b = r.bodies.b }
constraint_slots (Contact r) = record { a = r.bodies.a; b = r.bodies.b }

-- which constraint a row is of: a joint, or a contact
pub record RowName : Type 0 where
  pub joint : Option JointBodies
  pub contact : Option Bodies

abbrev pub row_name : ConstraintRow → RowName
row_name (Joint r) = record { joint = Some r.bodies; contact = None }
row_name (Contact r) = record { joint = None; contact = Some r.bodies }

abbrev pub IsConstraintRow : ConstraintRow → Type 0
IsConstraintRow (Joint r) = IsJointRow r
IsConstraintRow (Contact r) = IsRow r

-- a constraint of two different bodies below n
abbrev pub IsRowBelow : ℕ → ConstraintRow → Type 0
IsRowBelow n r = IsRowOn constraint_slots IsConstraintRow n r

abbrev pub AreRowsBelow : ℕ → List ConstraintRow → Type 0
AreRowsBelow n rows = AreRowsOn constraint_slots IsConstraintRow n rows

-- ---- the rows of joints, and those of contacts

abbrev pub joint_in : ConstraintRow → Option JointRow
joint_in (Joint r) = Some r
joint_in (Contact r) = None

abbrev pub contact_in : ConstraintRow → Option ContactRow
contact_in (Joint r) = None
contact_in (Contact r) = Some r

-- which kind a row is of
abbrev pub is_joint : ConstraintRow → Bool
is_joint (Joint r) = true
is_joint (Contact r) = false

abbrev pub joints_among : List ConstraintRow → List JointRow
joints_among rs = filter_map joint_in rs

abbrev pub contacts_among : List ConstraintRow → List ContactRow
contacts_among rs = filter_map contact_in rs

-- ---- visits

-- the joint's row and its bodies after a visit
abbrev pub visited_joint : JointAfter → RowAfter JointRow
visited_joint t = record { row = t.row; ends = t.ends }

-- the visit of a row of either kind, from the visits of each
abbrev pub either_visit : (JointRow → Ends → JointAfter) → (ContactRow → Ends → RowAfter ContactRow) → ConstraintRow → Ends → RowAfter ConstraintRow
either_visit f g (Joint r) e = record { row = Joint (f r e).row; ends = (f r e).ends }
either_visit f g (Contact r) e = record { row = Contact (g r e).row; ends = (g r e).ends }

-- the same, where what a visit leaves of a joint is said as of any row
abbrev pub joint_after : RowAfter JointRow → JointAfter
joint_after t = record { row = t.row; ends = t.ends }

abbrev pub both_visits : (JointRow → Ends → RowAfter JointRow) → (ContactRow → Ends → RowAfter ContactRow) → ConstraintRow → Ends → RowAfter ConstraintRow
both_visits f g = either_visit (λ r e. joint_after (f r e)) g

-- the kept impulses given once more
abbrev pub constraint_warmed : ConstraintRow → Ends → RowAfter ConstraintRow
constraint_warmed r e = either_visit joint_warmed row_warmed r e

-- the impulses of the solver
abbrev pub constraint_solved : ConstraintRow → Ends → RowAfter ConstraintRow
constraint_solved r e = either_visit joint_solved row_solved r e

-- a joint has no restitution
abbrev pub joint_unbounced : JointRow → Ends → JointAfter
joint_unbounced r e = record { row = r; ends = e }

-- restitution
abbrev pub constraint_bounced : ConstraintRow → Ends → RowAfter ConstraintRow
constraint_bounced r e = either_visit joint_unbounced row_bounced r e
