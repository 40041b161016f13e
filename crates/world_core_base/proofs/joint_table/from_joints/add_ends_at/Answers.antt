use Rattle.std.proofs.Common.{take, ◌∙◌, sym}
use Rattle.world_core_base.proofs.JointEndLaws.{at_slot, first_absent, second_absent, take_here}
use Rattle.world_core_base.proofs.GivenJointLaws.{ends_added, ends_passed}
use Rattle.world_core_base.proofs.joint_table.from_joints.add_ends_at.Goals as goal

pub add_ends-requires-clause-first : goal.add_ends-requires-clause-first
add_ends-requires-clause-first c = first_absent (take c.args.slot c.args.joints.now) c.args.sets.now.sets c.args.slot c.requires.ends (take_here c.args.joints.now c.args.slot)

pub add_ends-requires-clause-second : goal.add_ends-requires-clause-second
add_ends-requires-clause-second c = second_absent (take c.args.slot c.args.joints.now) c.args.sets.now.sets c.args.slot c.requires.ends (take_here c.args.joints.now c.args.slot)

pub returns-in_ok-add_ends-clause-ends : goal.returns-in_ok-add_ends-clause-ends
returns-in_ok-add_ends-clause-ends c =
    ends_added c.args.joints.now c.args.sets.now.sets c.add_ends.new.sets.sets c.args.slot c.in-Some.joint (sym (at_slot c.args.joints.now c.args.slot _ c.requires.below) ∙ c.in-Some.is) c.in_ok-add_ends.ensures.noted c.requires.ends

pub returns-in_default-clause-ends : goal.returns-in_default-clause-ends
returns-in_default-clause-ends c = ends_passed c.args.joints.now c.args.sets.now.sets c.args.slot (sym (at_slot c.args.joints.now c.args.slot _ c.requires.below) ∙ c.in_default.is) c.requires.ends
