-- Impulses that are put back part after part, from rows of which no two are of one constraint.
use Rattle.std.specs.Prelude.{◌≢◌, ℕ, zero, suc, List, Option, Some, None, map}
use Rattle.std.specs.List.{AllPairs}
use Rattle.joint_rows.specs.declared.row.JointBodies.{JointBodies}
use Rattle.contacts_base.specs.Keys.{key_number}
use Rattle.contacts_base.specs.declared.contact.ContactEntry.{ContactEntry}
use Rattle.colour_solver_base.specs.declared.row.Bodies.{Bodies}
use Rattle.colour_solver_base.specs.Rows.{key_of}
use Rattle.colour_solver.specs.ColourRows.{all_rows}
use Rattle.colour_solver.specs.ConstraintVisits.{RowName, contacts_among, joints_among, row_name}
use Rattle.plain_world.specs.declared.joint.BodyJoint.{BodyJoint}
use Rattle.world_core_base.specs.ConstraintRows.{with_joint_rows}
use Rattle.world_core_base.specs.Gather.{with_rows}
use Rattle.part_runs.specs.Runs.{Step}
use Rattle.part_solver.specs.Parts.{Solved, run_at}

-- the joints with the impulses of the rows of the first n parts
abbrev pub joints_by : List (Option BodyJoint) → List Solved → ℕ → List (Option BodyJoint)
joints_by joints parts zero = joints
joints_by joints parts (suc n) = with_joint_rows (joints_by joints parts n) (joints_among (run_at parts n).rows)

-- the contacts with those
abbrev pub contacts_by : List ContactEntry → List Solved → ℕ → List ContactEntry
contacts_by contacts parts zero = contacts
contacts_by contacts parts (suc n) = with_rows (contacts_by contacts parts n) (contacts_among (run_at parts n).rows)

-- ---- rows of different constraints

abbrev pub AreOtherJoints : Option JointBodies → Option JointBodies → Type 0
AreOtherJoints None other = Unit {0}
AreOtherJoints (Some one) None = Unit {0}
AreOtherJoints (Some one) (Some other) = one.index ≢ other.index

abbrev pub AreOtherContacts : Option Bodies → Option Bodies → Type 0
AreOtherContacts None other = Unit {0}
AreOtherContacts (Some one) None = Unit {0}
AreOtherContacts (Some one) (Some other) = key_number (key_of one) ≢ key_number (key_of other)

abbrev pub AreOtherNames : RowName → RowName → Type 0
AreOtherNames one other = AreOtherJoints one.joint other.joint × AreOtherContacts one.contact other.contact

-- no two rows of the step t are of one constraint
abbrev pub AreNamesApart : Step → Type 0
AreNamesApart t = AllPairs AreOtherNames (map row_name (all_rows t.rows))
