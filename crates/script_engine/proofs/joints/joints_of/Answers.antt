use Rattle.script_engine.proofs.joints.joints_of.Goals as goal

pub list_joints-requires-clause-bodies : goal.list_joints-requires-clause-bodies
list_joints-requires-clause-bodies c = rw (c.in_ok-plain.ensures.plain) c.in_ok-plain.ensures.sound.formed.bodies

pub list_joints-requires-clause-joints : goal.list_joints-requires-clause-joints
list_joints-requires-clause-joints c = rw (c.in_ok-plain.ensures.plain) c.in_ok-plain.ensures.sound.formed.joints
