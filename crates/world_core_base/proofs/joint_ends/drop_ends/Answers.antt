use Rattle.world_core_base.proofs.JointEndLaws.{ends_dropped}
use Rattle.world_core_base.proofs.joint_ends.drop_ends.Goals as goal

pub returns : goal.returns
returns c joints lt e = ends_dropped joints c.args.sets.now.sets c.remove.new.self.sets c.remove-2.new.self.sets c.args.slot lt e c.remove.ensures.taken c.remove.ensures.absent c.remove-2.ensures.taken c.remove-2.ensures.absent
