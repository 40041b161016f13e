-- Trusted: The rows of a step's constraints, gathered from joints and contacts in solve order, and written back to
-- them.
use Rattle.std.specs.Prelude.{◌≡◌, ℕ, ◌<◌, ◌≢◌, List, [], ◌∷◌, length, All, Option, Some, None, option_map, slice_index_or}
use Rattle.std.specs.List.{filter_map, flat_map}
use Rattle.momenta.specs.declared.state.BodyState.{BodyState}
use Rattle.momenta.specs.declared.state.Ends.{Ends}
use Rattle.joint_rows.specs.Joints.{IsJoint}
use Rattle.joint_rows.specs.Rows.{joint_row}
use Rattle.joint_rows.specs.declared.row.JointBodies.{JointBodies}
use Rattle.joint_rows.specs.declared.row.JointRow.{JointRow}
use Rattle.contacts_base.specs.declared.contact.ContactEntry.{ContactEntry}
use Rattle.plain_world.specs.declared.constraint.Constraint.{Constraint}
use Rattle.plain_world.specs.declared.constraint.Constraint.TheVariants as constraints
use Rattle.graph_colours.specs.declared.member.Member.{Member}
use Rattle.colour_solver.specs.States.{nobody}
use Rattle.colour_solver.specs.declared.constraint_row.ConstraintRow.{ConstraintRow}
use Rattle.colour_solver.specs.declared.constraint_row.ConstraintRow.TheVariants as rows
use Rattle.plain_world.specs.declared.joint.BodyJoint.{BodyJoint}
use Rattle.plain_world.specs.Joints.{joint_at}
use Rattle.plain_world.specs.InSlots.{impulse_set}
use Rattle.world_core_base.specs.Gather.{HasMovable, row_of}

-- ---- joints

-- which joint it is, and its bodies
abbrev pub joint_bodies : ℕ → BodyJoint → JointBodies
joint_bodies slot j = record { index = slot; a = j.a; b = j.b }

abbrev pub joint_ends : List BodyState → BodyJoint → Ends
joint_ends states j = record { a = slice_index_or states j.a nobody; b = slice_index_or states j.b nobody }

-- the row of the joint in a slot, if there is one
abbrev pub joint_row_in : List BodyState → ℕ → Option BodyJoint → Option JointRow
joint_row_in states slot None = None
joint_row_in states slot (Some j) = Some (joint_row (joint_bodies slot j) (joint_ends states j) j.joint)

-- the row of a constraint, if it is a joint
abbrev pub joint_row_of : List BodyState → List (Option BodyJoint) → Constraint → Option JointRow
joint_row_of states joints (constraints.Joint h) = joint_row_in states h.slot (joint_at joints h.slot)
joint_row_of states joints (constraints.Contact key) = None

-- ---- all constraints

-- the row of a constraint, if it is there, and touches if it is a contact
abbrev pub constraint_row : List BodyState → List (Option BodyJoint) → List ContactEntry → Constraint → Option ConstraintRow
constraint_row states joints contacts (constraints.Joint h) = option_map rows.Joint (joint_row_in states h.slot (joint_at joints h.slot))
constraint_row states joints contacts (constraints.Contact key) = option_map rows.Contact (row_of states contacts (constraints.Contact key))

abbrev pub rows_in : List BodyState → List (Option BodyJoint) → List ContactEntry → List (Member Constraint) → List ConstraintRow
rows_in states joints contacts members = filter_map (λ m. constraint_row states joints contacts m.id) members

-- the active constraints in solve order: colour after colour, and the overflow last
unfoldable pub rows_of : List BodyState → List (Option BodyJoint) → List ContactEntry → List (List (Member Constraint)) → List ConstraintRow
rows_of states joints contacts lists = flat_map (rows_in states joints contacts) lists

-- ---- back to joints and contacts

abbrev pub put_joint_row : JointRow → List (Option BodyJoint) → List (Option BodyJoint)
put_joint_row r joints = impulse_set r.bodies.index r.impulse joints (joint_at joints r.bodies.index)

-- each joint with the impulse that the step has left it
abbrev pub with_joint_rows : List (Option BodyJoint) → List JointRow → List (Option BodyJoint)
with_joint_rows joints [] = joints
with_joint_rows joints (r ∷ rs) = with_joint_rows (put_joint_row r joints) rs

-- ---- what must hold of the joints

-- a joint of two different states, one of them movable, with its numbers within their limits
pub record IsJointOn (states : List BodyState) (j : BodyJoint) : Type 0 where
  pub first : j.a < length states
  pub second : j.b < length states
  pub apart : j.a ≢ j.b
  pub mover : HasMovable states j.a j.b
  pub joint : IsJoint j.joint

abbrev pub IsJointThere : List BodyState → Option BodyJoint → Type 0
IsJointThere states o = (j : BodyJoint) → o ≡ Some j → IsJointOn states j

-- if the constraint is a joint, it is such a one
abbrev pub HasJointOn : List BodyState → List (Option BodyJoint) → Constraint → Type 0
HasJointOn states joints (constraints.Joint h) = IsJointThere states (joint_at joints h.slot)
HasJointOn states joints (constraints.Contact key) = Unit {0}

abbrev pub HaveJointsOn : List BodyState → List (Option BodyJoint) → List (Member Constraint) → Type 0
HaveJointsOn states joints members = All (λ m. HasJointOn states joints m.id) members

-- ---- what must hold of the contacts

-- if the constraint is a contact, one of its bodies is movable
abbrev pub IsMovable : List BodyState → Constraint → Type 0
IsMovable states (constraints.Joint h) = Unit {0}
IsMovable states (constraints.Contact key) = HasMovable states key.first.slot key.second.slot

abbrev pub HaveMovable : List BodyState → List (Member Constraint) → Type 0
HaveMovable states members = All (λ m. IsMovable states m.id) members
