-- What the lists of a plain world make of its constraints: a tie of each joint and contact that is one, and the members
-- of its colours.
use Rattle.std.specs.Prelude.{cond, List, [], Option, Some, None}
use Rattle.body_handles.specs.declared.handle.Handle.{Handle}
use Rattle.contacts_base.specs.declared.contact.ContactEntry.{ContactEntry}
use Rattle.contacts_base.specs.Evaluate.{touches}
use Rattle.plain_world.specs.declared.constraint.Constraint.{Constraint}
use Rattle.plain_world.specs.declared.constraint.Constraint.TheVariants.{Joint, Contact}
use Rattle.graph_colours.specs.declared.member.Member.{Member}
use Rattle.plain_world.specs.declared.body.Body.{Body}
use Rattle.plain_world.specs.declared.joint.BodyJoint.{BodyJoint}
use Rattle.solver_sets.specs.Ties.{JointSlots, contact_movers, joint_movers, slots_of, tie_with}

-- the tie of what is in a joint's slot
abbrev pub joint_tie_in : List (Option Body) → Handle → Option BodyJoint → Option (Member Constraint)
joint_tie_in bodies h None = None
joint_tie_in bodies h (Some j) = tie_with (Joint h) (joint_movers bodies j)

-- the tie of a contact, if it touches
abbrev pub contact_tie_in : List (Option Body) → ContactEntry → Option (Member Constraint)
contact_tie_in bodies e = cond (touches e.contact) (tie_with (Contact e.key) (contact_movers bodies e.key)) None

-- joints by slot, of whose places nothing is said: they don't matter to the movers of a constraint
abbrev pub joints_alone : List (Option BodyJoint) → JointSlots
joints_alone joints = slots_of [] joints
