use Rattle.std.proofs.Common.{sym, subst}
use Rattle.plain_world.specs.Bodies.{AreBodies}
use Rattle.script_engine.proofs.joints.add_joint.Goals as goal

pub joint_view-requires-clause-bodies : goal.joint_view-requires-clause-bodies
joint_view-requires-clause-bodies c = subst AreBodies (sym c.bodies.ensures) c.requires.bodies

pub joint_view-requires-clause-joints : goal.joint_view-requires-clause-joints
joint_view-requires-clause-joints c = rw (c.bodies.ensures, c.joints-2.ensures) c.requires.joints
