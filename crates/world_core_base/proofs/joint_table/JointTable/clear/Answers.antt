use Rattle.std.proofs.Common.{◌<◌, None, length}
use Rattle.std.proofs.lemmas.List.{length-set}
use Rattle.world_core_base.proofs.joint_table.JointTable.clear.Goals as goal

pub invariant_of-self : goal.invariant_of-self
invariant_of-self c =
    let joints = c.self.inside.joints.items in
    let there : c.args.slot < length joints = rw (← c.self.view_is) at c.requires in
    record {
      few = rw (c.clear_slot.ensures, length-set joints c.args.slot None) c.self.invariant.few;
      ends = rw c.clear_slot.ensures (c.drop_ends.ensures joints there c.self.invariant.ends);
      ready = tt;
    }
