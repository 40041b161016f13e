use Rattle.loaded_text.proofs.JointLaws.{JointsSoFar}
use Rattle.loaded_text.proofs.joint_slots.add_joints.Given as goal

abbrev pub invariant-loop-count : goal.invariant-loop-count
invariant-loop-count l = JointsSoFar l.count l.fn.joints l.joints l.initial.text.rest.now l.text.rest.now
