-- The constraints that act in a step, with the slots of their bodies, and the rows that are gathered of them.
use Rattle.std.specs.Prelude.{◌≡◌, ◌+◌, List, [], Option, Some, None, All, length, map, slice_index_or, take}
use Rattle.momenta.specs.declared.state.BodyState.{BodyState}
use Rattle.graph_colours.specs.declared.limits.TheConstants.{COLOURS}
use Rattle.graph_colours.specs.declared.member.Member.{Member}
use Rattle.graph_colours.specs.Members.{AreRising}
use Rattle.contacts_base.specs.declared.contact.ContactEntry.{ContactEntry}
use Rattle.plain_world.specs.Constraints.{constraint_number}
use Rattle.plain_world.specs.declared.constraint.Constraint.{Constraint}
use Rattle.plain_world.specs.declared.constraint.Constraint.TheVariants as constraints
use Rattle.colour_solver.specs.declared.constraint_row.ConstraintRow.{ConstraintRow}
use Rattle.colour_solver.specs.declared.row_visits.Slots.{Slots}
use Rattle.colour_solver.specs.ColourRows.{ColourRows}
use Rattle.plain_world.specs.declared.joint.BodyJoint.{BodyJoint}
use Rattle.plain_world.specs.Joints.{joint_at}
use Rattle.world_core_base.specs.ConstraintRows.{HaveJointsOn, HaveMovable, rows_in}
use Rattle.world_core_base.specs.Gather.{AreContactsOn}
use Rattle.world_core_base.specs.StepRuns.{ArePresent}
use Rattle.part_solver.specs.declared.stages.Stage.{Stage}

-- the slots of the bodies of a constraint
abbrev pub joint_ends : Option BodyJoint → Slots
joint_ends None = record { a = 0; b = 0 }
joint_ends (Some j) = record { a = j.a; b = j.b }

abbrev pub slots_in : List (Option BodyJoint) → Constraint → Slots
slots_in joints (constraints.Joint h) = joint_ends (joint_at joints h.slot)
slots_in joints (constraints.Contact key) = record { a = key.first.slot; b = key.second.slot }

-- those of the constraints of one colour
abbrev pub slots_of : List (Option BodyJoint) → List (Member Constraint) → List Slots
slots_of joints members = map (λ (m : Member Constraint). slots_in joints m.id) members

-- the constraints of a stage, with their slots
abbrev pub IsStageOf : List (Option BodyJoint) → List (Member Constraint) → Stage → Type 0
IsStageOf joints members s = (s.members.items ≡ members) × (s.slots.items ≡ slots_of joints members)

abbrev pub lists_of : List Stage → List (List (Member Constraint))
lists_of stages = map (λ (s : Stage). s.members.items) stages

abbrev pub slot_lists : List Stage → List (List Slots)
slot_lists stages = map (λ (s : Stage). s.slots.items) stages

-- one for each colour and for the overflow; each has the slots of its constraints, which ascend
pub record AreStages (joints : List (Option BodyJoint)) (stages : List Stage) : Type 0 where
  pub count : length stages ≡ COLOURS + 1
  pub slots : slot_lists stages ≡ map (slots_of joints) (lists_of stages)
  pub rising : All (AreRising constraint_number) (lists_of stages)

-- the rows of a step by colour, those of the overflow being left
abbrev pub rows_by : List BodyState → List (Option BodyJoint) → List ContactEntry → List (List (Member Constraint)) → ColourRows ConstraintRow
rows_by states joints contacts lists = record {
  colours = map (rows_in states joints contacts) (take COLOURS lists);
  left = rows_in states joints contacts (slice_index_or lists COLOURS []);
  room = 0;
  more = 0;
}

-- of these constraints, one for each, the rows are these
pub record HaveTheRows (states : List BodyState) (joints : List (Option BodyJoint)) (contacts : List ContactEntry) (members : List (Member Constraint)) (rows : List ConstraintRow) : Type 0 where
  pub rows_are : rows_in states joints contacts members ≡ rows
  pub count : length members ≡ length rows

-- of these constraints, which have these slots, rows can be gathered
pub record CanGather (states : List BodyState) (joints : List (Option BodyJoint)) (contacts : List ContactEntry) (members : List (Member Constraint)) (slots : List Slots) : Type 0 where
  pub slots_are : slots ≡ slots_of joints members
  pub contacts_on : AreContactsOn states contacts
  pub joined : HaveJointsOn states joints members
  pub movable : HaveMovable states members
  pub there : ArePresent joints contacts members
  pub rising : AreRising constraint_number members
