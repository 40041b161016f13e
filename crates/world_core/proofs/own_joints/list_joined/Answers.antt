use Rattle.std.proofs.Common.{◌∙◌}
use Rattle.world_core.proofs.OwnJointLaws.{own_joined}
use Rattle.world_core.proofs.own_joints.list_joined.Goals as goal

pub returns-clause-slots : goal.returns-clause-slots
returns-clause-slots c = c.in_ok-joined.ensures.slots ∙ own_joined c.args.bodies.now c.args.joints.now _ c.args.body c.args.slots.now c.requires (c.deref.ensures.value ∙ c.in_ok-own.ensures.joints)
