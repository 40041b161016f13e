use Rattle.world_core_base.proofs.OwnJointLaws.{all_ends, once_ends, only_ends}
use Rattle.world_core_base.proofs.joint_table.JointTable.ends.Goals as goal

pub returns-clause-all : goal.returns-clause-all
returns-clause-all c = rw (← c.self.view_is) (λ slot own. rw c.members.ensures.value (all_ends c.self.inside.joints.items c.self.inside.ends.sets c.args.body slot c.self.invariant.ends own))

pub returns-clause-only : goal.returns-clause-only
returns-clause-only c = rw (← c.self.view_is) (λ slot h. only_ends c.self.inside.joints.items c.self.inside.ends.sets c.args.body slot c.self.invariant.ends (rw c.members.ensures.value at h))

pub returns-clause-once : goal.returns-clause-once
returns-clause-once c = rw (← c.self.view_is) (λ two. rw c.members.ensures.value (once_ends c.self.inside.joints.items c.self.inside.ends.sets c.args.body c.self.invariant.ends two))
