use Rattle.std.proofs.Common.{sym, ◌∙◌, arith}
use Rattle.world_file.specs.Fitting.{are_joints_colourless}
use Rattle.world_file.proofs.Listed.{colourless_end, colourless_no, colourless_yes}
use Rattle.world_file.proofs.ties.are_joints_colourless.Goals as goal

pub returns-then-not-is_joint_colourless : goal.returns-then-not-is_joint_colourless
returns-then-not-is_joint_colourless c =
    colourless_no c.args.bodies.now c.args.slot_entries.now c.args.joints.now c.loop-slot.slot _ _ c.is_joint_colourless.result (are_joints_colourless c.args.bodies.now 0 c.args.slot_entries.now c.args.joints.now)
    (omega (arith, c.lesser-slot-end.ensures.first)) (omega (arith, c.lesser-slot-end.ensures.second)) c.is_joint_colourless.ensures c.if-not-is_joint_colourless.true c.loop-slot.invariant

pub loop-slot-preserved : goal.loop-slot-preserved
loop-slot-preserved c =
    colourless_yes c.args.bodies.now c.args.slot_entries.now c.args.joints.now c.loop-slot.slot _ _ c.is_joint_colourless.result (are_joints_colourless c.args.bodies.now 0 c.args.slot_entries.now c.args.joints.now)
    (omega (arith, c.lesser-slot-end.ensures.first)) (omega (arith, c.lesser-slot-end.ensures.second)) c.is_joint_colourless.ensures c.if-not-is_joint_colourless.false c.loop-slot.invariant

pub returns : goal.returns
returns c =
    sym (colourless_end c.args.bodies.now c.args.slot_entries.now c.args.joints.now c.lesser-slot-end.result c.loop-slot.slot c.lesser-slot-end.ensures.one (omega arith)) ∙ c.loop-slot.invariant
