use Rattle.std.proofs.Common.{◌∙◌, sym, ap}
use Rattle.std.specs.Option.{option_copied}
use Rattle.world_script_base.proofs.JointLaws.{joint_there}
use Rattle.world_script_base.proofs.joint_views.joint_view.Goals as goal

pub view_of-requires-clause-joint : goal.view_of-requires-clause-joint
view_of-requires-clause-joint c =
    joint_there c.args.bodies.now c.args.joints.now c.requires.joints c.args.slot c.in-Some.joint.now (sym c.item_at.ensures ∙ ap option_copied c.in-Some.is)
