-- What the ticks of a step may rely on: the joints, the contacts and the constraints that act, as they are gathered.
use Rattle.std.specs.Prelude.{List, Option, All}
use Rattle.plain_world.specs.declared.constraint.Constraint.{Constraint}
use Rattle.contacts_base.specs.declared.contact.ContactEntry.{ContactEntry}
use Rattle.contacts_base.specs.Contacts.{AreKeysRising}
use Rattle.graph_colours.specs.Colours.{ids_of}
use Rattle.graph_colours.specs.declared.member.Member.{Member}
use Rattle.plain_world.specs.declared.body.Body.{Body}
use Rattle.plain_world.specs.declared.joint.BodyJoint.{BodyJoint}
use Rattle.plain_world.specs.Joints.{AreJoints}
use Rattle.world_core_base.specs.ConstraintRows.{HaveJointsOn, HaveMovable}
use Rattle.world_core_base.specs.Gather.{states_of}
use Rattle.world_core_base.specs.ContactBodies.{AreContactsOf}
use Rattle.world_core_base.specs.Solving.{solve_order}
use Rattle.world_core_base.specs.SolvingArrays.{CanSolve}
use Rattle.world_core_base.specs.StepRuns.{ArePresent}

-- Joints and contacts are of bodies that are there, and the keys of the contacts ascend. Of each constraint in these
-- lists, one for each colour, a body is an awake mover; each is there, none stands twice, and the bodies of each are
-- there.
pub record CanGather (bodies : List (Option Body)) (joints : List (Option BodyJoint)) (contacts : List ContactEntry) (lists : List (List (Member Constraint))) : Type 0 where
  pub joints_there : AreJoints bodies joints
  pub rising : AreKeysRising contacts
  pub pairs : AreContactsOf bodies contacts
  pub joined : All (HaveJointsOn (states_of bodies) joints) lists
  pub movable : All (HaveMovable (states_of bodies)) lists
  pub there : All (ArePresent joints contacts) lists
  pub once : CanSolve bodies joints (solve_order (ids_of lists))
