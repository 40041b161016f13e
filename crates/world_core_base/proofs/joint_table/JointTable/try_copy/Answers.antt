use Rattle.std.proofs.Common.{◌≡◌, ◌∙◌}
use Rattle.world_core_base.specs.JointEnds.{AreEnds}
use Rattle.world_core_base.proofs.joint_table.JointTable.try_copy.Goals as goal

pub invariant_of-result : goal.invariant_of-result
invariant_of-result c =
    let joints : c.in_ok-from_slice.field-0.items ≡ c.self.inside.joints.items = c.in_ok-from_slice.ensures.items ∙ c.as_slice.ensures.value in
    let ends : AreEnds c.self.inside.joints.items c.in_ok-try_copy.field-0.sets = rw c.in_ok-try_copy.ensures.sets c.self.invariant.ends in
    rw joints (record {
      few = c.self.invariant.few;
      ends = ends;
      ready = tt;
    })
