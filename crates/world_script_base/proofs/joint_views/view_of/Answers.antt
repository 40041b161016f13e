use Rattle.std.proofs.Common.{◌∙◌, sym, ap}
use Rattle.std.specs.Option.{option_copied}
use Rattle.world_script_base.proofs.JointLaws.{body_there}
use Rattle.world_script_base.proofs.joint_views.view_of.Goals as goal

pub view_between-requires-clause-first : goal.view_between-requires-clause-first
view_between-requires-clause-first c =
    body_there c.args.bodies.now c.requires.bodies c.args.joint.now.a c.in-Some-Some.a.now (sym c.item_at.ensures ∙ ap option_copied c.in-Some-Some.is-0)

pub view_between-requires-clause-second : goal.view_between-requires-clause-second
view_between-requires-clause-second c =
    body_there c.args.bodies.now c.requires.bodies c.args.joint.now.b c.in-Some-Some.b.now (sym c.item_at-2.ensures ∙ ap option_copied c.in-Some-Some.is-1)
