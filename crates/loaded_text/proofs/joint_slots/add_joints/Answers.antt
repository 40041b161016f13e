use Rattle.std.proofs.Common.{arith}
use Rattle.loaded_text.proofs.JointLaws.{joint_more, joints_end, no_joint_yet}
use Rattle.loaded_text.proofs.joint_slots.add_joints.Goals as goal

pub loop-count-init : goal.loop-count-init
loop-count-init c = no_joint_yet c.args.joints.now _

pub loop-count-preserved : goal.loop-count-preserved
loop-count-preserved c = joint_more c.loop-count.count c.args.joints.now _ _ c.in_ok-slot.slot _ _ _ _ c.loop-count.invariant (c.in_ok-more.ensures.more c.if-not-more.false) c.in_ok-slot.ensures c.in_ok-keep_slot.ensures.slot_entries c.in_ok-keep_slot.ensures.joints

pub returns-then-not-more : goal.returns-then-not-more
returns-then-not-more c = joints_end c.args.lead.now c.loop-count.count c.args.joints.now c.loop-count.joints _ _ _ _ _ (omega (arith, c.loop-count-test.true)) c.in_ok-expect.ensures.taken c.in_ok-expect-2.ensures.taken c.loop-count.invariant (c.in_ok-more.ensures.end c.if-not-more.true)
