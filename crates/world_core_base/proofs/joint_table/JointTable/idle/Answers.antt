use Rattle.world_core_base.proofs.OwnJointLaws.{all_ends, ends_below}
use Rattle.world_core_base.proofs.JointTableLaws.{ends_idle, length_idle}
use Rattle.world_core_base.proofs.joint_table.JointTable.idle.Goals as goal

pub idle_own-requires-clause-below : goal.idle_own-requires-clause-below
idle_own-requires-clause-below c id h = ends_below c.self.inside.joints.items c.self.inside.ends.sets c.args.slot id c.self.invariant.ends (rw c.members.ensures.value at h)

pub idle_own-requires-clause-all : goal.idle_own-requires-clause-all
idle_own-requires-clause-all c slot own = rw c.members.ensures.value (all_ends c.self.inside.joints.items c.self.inside.ends.sets c.args.slot slot c.self.invariant.ends own)

pub invariant_of-self : goal.invariant_of-self
invariant_of-self c =
    let joints = c.self.inside.joints.items in
    record {
      few = rw (c.idle_own.ensures, length_idle c.args.slot joints) c.self.invariant.few;
      ends = rw c.idle_own.ensures (ends_idle joints c.self.inside.ends.sets c.args.slot c.self.invariant.ends);
      ready = tt;
    }
