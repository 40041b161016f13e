use Rattle.std.proofs.Common.{◌++◌, arith}
use Rattle.std.specs.List.{flat_map}
use Rattle.world_file.specs.Fitting.{joint_ties, tie_if_any}
use Rattle.world_file.proofs.Listed.{push_step, ties_listed}
use Rattle.world_file.proofs.ties.push_joint_ties.Goals as goal

pub loop-slot-preserved : goal.loop-slot-preserved
loop-slot-preserved c =
    push_step c.loop-slot.ties.items c.push_tie.new.ties.items (c.args.ties.now.items ++ flat_map tie_if_any (joint_ties c.args.bodies.now 0 c.args.slot_entries.now c.args.joints.now)) c.args.bodies.now c.args.slot_entries.now c.args.joints.now
    c.loop-slot.slot _ _ c.saved_joint_tie.result (omega (arith, c.lesser-slot-end.ensures.first)) (omega (arith, c.lesser-slot-end.ensures.second)) c.in_ok-push_tie.ensures.ok c.saved_joint_tie.ensures c.loop-slot.invariant

pub returns-clause-ok : goal.returns-clause-ok
returns-clause-ok c =
    ties_listed c.loop-slot.ties.items (c.args.ties.now.items ++ flat_map tie_if_any (joint_ties c.args.bodies.now 0 c.args.slot_entries.now c.args.joints.now)) c.args.bodies.now c.args.slot_entries.now c.args.joints.now
    c.lesser-slot-end.result c.loop-slot.slot c.lesser-slot-end.ensures.one (omega arith) c.loop-slot.invariant
