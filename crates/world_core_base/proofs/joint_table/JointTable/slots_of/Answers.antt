use Rattle.world_core_base.proofs.OwnJointLaws.{own_slots_are}
use Rattle.world_core_base.proofs.joint_table.JointTable.slots_of.Goals as goal

pub returns-clause-slots : goal.returns-clause-slots
returns-clause-slots c = rw (← c.self.view_is) (own_slots_are c.self.inside.joints.items c.self.inside.ends.sets c.args.body c.in_ok-slots.slots.items c.members.result.now c.members.ensures.value c.self.invariant.ends c.in_ok-slots.ensures.rising c.in_ok-slots.ensures.slots)
