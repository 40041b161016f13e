-- A step's ticks over the bodies, the joints, the contacts and the constraints that act, colour after colour:
-- what these may be, and what the ticks leave.
use Rattle.std.specs.Prelude.{◌≡◌, ◌^◌, ◌+◌, ◌≤◌, ℕ, true, List, Option, Some, All, length, take}
use Rattle.std.specs.List.{AllPairs}
use Rattle.body_handles.specs.declared.slot_table.TheConstants.{MAX_SLOTS}
use Rattle.fixed_geom.specs.Vectors.{IsWithin, plus}
use Rattle.fixed_geom.specs.declared.vectors.Vec2.{Vec2}
use Rattle.momenta.specs.declared.state.BodyState.{BodyState}
use Rattle.graph_colours.specs.declared.limits.TheConstants.{COLOURS}
use Rattle.graph_colours.specs.declared.member.Member.{Member}
use Rattle.graph_colours.specs.Colours.{Coloured, all_members, ids_of}
use Rattle.graph_colours.specs.Members.{AreApart}
use Rattle.contacts_base.specs.declared.key.ContactKey.{ContactKey}
use Rattle.contacts_base.specs.declared.contact.ContactEntry.{ContactEntry}
use Rattle.contacts_base.specs.Contacts.{lookup}
use Rattle.contacts_base.specs.Evaluate.{touches}
use Rattle.plain_world.specs.declared.constraint.Constraint.{Constraint}
use Rattle.plain_world.specs.declared.constraint.Constraint.TheVariants as constraints
use Rattle.colour_solver.specs.declared.ticks.StepSums.{StepSums}
use Rattle.colour_solver.specs.ConstraintVisits.{AreRowsBelow, contacts_among, joints_among}
use Rattle.colour_solver.specs.States.{AreAllStates, AreSameBeside, HaveCourses, carried_of, movers_of, total}
use Rattle.colour_solver.specs.Ticks.{AreSums, Run, added, ran, run_of, start}
use Rattle.plain_world.specs.declared.joint.BodyJoint.{BodyJoint}
use Rattle.plain_world.specs.Joints.{joint_at}
use Rattle.world_core_base.specs.declared.gathered_rows.GatheredRows.{GatheredRows}
use Rattle.world_core_base.specs.declared.step_solver.Constraints.{Constraints}
use Rattle.world_core_base.specs.declared.step_solver.MovingSlots.{MovingSlots}
use Rattle.world_core_base.specs.declared.step_solver.Pace.{Pace}
use Rattle.world_core_base.specs.ConstraintRows.{HaveJointsOn, HaveMovable, rows_of, with_joint_rows}
use Rattle.world_core_base.specs.Gather.{AreContactsOn, with_rows}
use Rattle.world_core_base.specs.RowColours.{HasItsMovers}
use Rattle.world_core_base.specs.Solving.{solve_order}
use Rattle.world_core_base.specs.SolvingArrays.{AreOther}

-- the joint in this slot
pub record HasJoint (joints : List (Option BodyJoint)) (slot : ℕ) : Type 0 where
  pub joint : BodyJoint
  pub found : joint_at joints slot ≡ Some joint

-- the contact with this key, which touches
pub record HasContact (contacts : List ContactEntry) (key : ContactKey) : Type 0 where
  pub entry : ContactEntry
  pub found : lookup contacts key ≡ Some entry
  pub same : entry.key ≡ key
  pub touching : touches entry.contact ≡ true

-- the constraint is there, and touches if it is a contact
abbrev pub IsPresent : List (Option BodyJoint) → List ContactEntry → Constraint → Type 0
IsPresent joints contacts (constraints.Joint h) = HasJoint joints h.slot
IsPresent joints contacts (constraints.Contact key) = HasContact contacts key

abbrev pub ArePresent : List (Option BodyJoint) → List ContactEntry → List (Member Constraint) → Type 0
ArePresent joints contacts members = All (λ m. IsPresent joints contacts m.id) members

-- Of each constraint in these lists, one for each colour, a body is an awake mover; each is there, and none stands
-- twice. No two of a colour share a mover, the overflow apart.
pub record CanStep (states : List BodyState) (joints : List (Option BodyJoint)) (contacts : List ContactEntry) (lists : List (List (Member Constraint))) : Type 0 where
  pub states_within : AreAllStates states
  pub courses : HaveCourses states
  pub joined : All (HaveJointsOn states joints) lists
  pub contacts_on : AreContactsOn states contacts
  pub movable : All (HaveMovable states) lists
  pub there : All (ArePresent joints contacts) lists
  pub once : AllPairs AreOther (solve_order (ids_of lists))
  pub apart : All AreApart (take COLOURS lists)
  pub movers : All (All (HasItsMovers states joints)) lists

-- the run of so many ticks
abbrev pub run_over : ℕ → Vec2 → List BodyState → List (Option BodyJoint) → List ContactEntry → List (List (Member Constraint)) → Run
run_over count gravity states joints contacts lists = ran count gravity (start states (rows_of states joints contacts lists))

-- joints and contacts have the impulses that the run r has left, and `sums` are what it has added to the momentum
pub record HaveImpulses (r : Run) (joints : List (Option BodyJoint)) (contacts : List ContactEntry) (joints_now : List (Option BodyJoint)) (contacts_now : List ContactEntry) (sums : StepSums) : Type 0 where
  pub sums_are : run_of r.states r.rows sums ≡ r
  pub joints_left : joints_now ≡ with_joint_rows joints (joints_among r.rows)
  pub contacts_left : contacts_now ≡ with_rows contacts (contacts_among r.rows)

-- the run r, which began with some bodies, has left these
pub record HasLeft (r : Run) (states : List BodyState) (states_now : List BodyState) (sums : StepSums) : Type 0 where
  pub states_are : states_now ≡ r.states
  pub rows : AreRowsBelow (length states_now) r.rows
  pub states_within : AreAllStates states_now
  pub long : length states_now ≡ length states
  pub same : AreSameBeside states states_now
  pub courses : HaveCourses states_now
  pub small : AreSums (2 ^ 83) sums
  pub momentum : total states_now ≡ plus (total states) (added sums)

-- ---- who runs the ticks

-- what the ticks of a step are run over, and at what pace: there is room for a row of each constraint, and nothing is put
-- off
pub record CanRun (states : List BodyState) (constraints : Constraints) (colours : Coloured Constraint) (gathered : GatheredRows) (moving : MovingSlots) (pace : Pace) : Type 0 where
  pub few : length states ≤ MAX_SLOTS
  pub gravity : IsWithin (2 ^ 16) pace.gravity
  pub count : pace.count ≤ 8
  pub awake : moving.awake.now ≡ movers_of states
  pub carried : moving.carried.now ≡ carried_of states
  pub flushed : colours.pending ≡ 0
  pub can : CanStep states constraints.joints.joints constraints.contacts.contacts colours.lists
  pub room : length (all_members colours.lists) ≤ gathered.rows.room
  pub more : COLOURS + 1 ≤ gathered.rows.more

-- the ticks have been run over bodies and constraints, have left these, and have added the sums to the momentum
pub record HasRun (pace : Pace) (lists : List (List (Member Constraint))) (states : List BodyState) (constraints : Constraints) (states_now : List BodyState) (constraints_now : Constraints) (sums : StepSums) : Type 0 where
  pub left : HasLeft (run_over pace.count pace.gravity states constraints.joints.joints constraints.contacts.contacts lists) states states_now sums
  pub impulses : HaveImpulses (run_over pace.count pace.gravity states constraints.joints.joints constraints.contacts.contacts lists) constraints.joints.joints constraints.contacts.contacts constraints_now.joints.joints constraints_now.contacts.contacts sums
  pub numbered : constraints_now.contacts.numbered ≡ constraints.contacts.numbered
